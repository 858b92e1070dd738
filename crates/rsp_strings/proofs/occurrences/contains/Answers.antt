use Rattle.rsp_strings.proofs.Sides.{contains_is}
use Rattle.rsp_strings.proofs.occurrences.contains.Goals as goal

pub returns : goal.returns
returns c = contains_is _ _ _ c.contains.ensures.cases
