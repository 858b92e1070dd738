use Rattle.std.proofs.Common.{sym, ap}
use Rattle.std.specs.Option.{option_map}
use Rattle.rsp_strings.proofs.Sides.{sides_around, sides_none}
use Rattle.rsp_strings.proofs.occurrences.text_after.Goals as goal

pub returns-in-Some : goal.returns-in-Some
returns-in-Some c = sym (ap (option_map (λ both. both.1)) (sides_around _ _ _ _ c.in-Some.ensures.cases))

pub returns-in-None : goal.returns-in-None
returns-in-None c = sym (ap (option_map (λ both. both.1)) (sides_none _ _ c.in-None.ensures.cases))
