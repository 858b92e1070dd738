use Rattle.std.proofs.Common.{◌≡◌, None}
use Rattle.rsp_multiset.specs.Variables.{row_by}
use Rattle.rsp_multiset.proofs.variables.unbound_cells.Given as goal

abbrev pub invariant-loop-variable : goal.invariant-loop-variable
invariant-loop-variable g l = l.cells.items ≡ row_by l._variable (λ _. None)
