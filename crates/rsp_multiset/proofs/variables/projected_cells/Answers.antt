use Rattle.std.proofs.Common.{if◌then◌else◌, None}
use Rattle.rsp_multiset.specs.Variables.{cell, among}
use Rattle.rsp_multiset.proofs.Columns.{one_cell_more}
use Rattle.rsp_multiset.proofs.variables.projected_cells.Goals as goal

pub loop-variable-preserved : goal.loop-variable-preserved
loop-variable-preserved g c =
    one_cell_more
    (λ v. if among c.args.variables.now v then cell c.args.row.now v else None)
    _
    _
    _
    _
    c.loop-variable.invariant
    c.in_ok-push.ensures.items
    c.in_ok-projected_cell.ensures
