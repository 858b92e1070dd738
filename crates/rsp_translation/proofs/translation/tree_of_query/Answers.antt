use Rattle.std.proofs.Common.{◌∙◌, sym}
use Rattle.rsp_query.specs.Meanings.{selection_of}
use Rattle.rsp_translation.specs.Building.{fixed_by}
use Rattle.rsp_translation.proofs.Clauses.{select_is, if_ok}
use Rattle.rsp_translation.proofs.translation.tree_of_query.Goals as goal

pub returns : goal.returns
returns c =
    if_ok c.select_tree.result _ _
    (λ tree is. is ∙ sym (select_is (fixed_by c.args.setting.now) c.args.place.now c.args.fresh (selection_of c.args.select.now)))
    c.select_tree.ensures
