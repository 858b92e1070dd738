use Rattle.rsp_translation.proofs.Rows.{one_variable_more}
use Rattle.rsp_translation.proofs.selects.every_variable.Goals as goal

pub loop-variable-preserved : goal.loop-variable-preserved
loop-variable-preserved c =
    one_variable_more _ _ _ _ _ c.loop-variable.invariant c.in_ok-push_where.ensures c.is_shown.ensures
