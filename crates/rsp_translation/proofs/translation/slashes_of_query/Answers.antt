use Rattle.std.proofs.Common.{◌∙◌, sym}
use Rattle.rsp_query.specs.Groups.{sub}
use Rattle.rsp_query.specs.Meanings.{selection_of}
use Rattle.rsp_translation.proofs.Clauses.{alone_is, if_ok}
use Rattle.rsp_translation.proofs.translation.slashes_of_query.Goals as goal

pub returns : goal.returns
returns c =
    if_ok c.slashes_within.result _ _ (λ n is. is ∙ sym (alone_is (sub (selection_of c.args.select.now)))) c.slashes_within.ensures
