use Rattle.rsp_translation.proofs.Rows.{one_cell_more}
use Rattle.rsp_translation.specs.Trees as trees
use Rattle.rsp_translation.proofs.values.values_row.Goals as goal

pub loop-variable-preserved : goal.loop-variable-preserved
loop-variable-preserved c =
    one_cell_more
    (trees.value_for c.args.variables.now c.args.cells.now)
    _
    _
    _
    _
    c.loop-variable.invariant
    c.in_ok-push.ensures.items
    c.in_ok-value_for.ensures
