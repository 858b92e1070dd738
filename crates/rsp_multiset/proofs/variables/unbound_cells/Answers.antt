use Rattle.std.proofs.Common.{None, refl}
use Rattle.rsp_multiset.proofs.Columns.{one_cell_more}
use Rattle.rsp_multiset.proofs.variables.unbound_cells.Goals as goal

pub loop-variable-preserved : goal.loop-variable-preserved
loop-variable-preserved g c =
    one_cell_more (λ _. None) _ _ _ _ c.loop-variable.invariant c.in_ok-push.ensures.items refl
