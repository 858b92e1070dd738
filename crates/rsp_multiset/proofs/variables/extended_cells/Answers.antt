use Rattle.std.proofs.Common.{if◌then◌else◌, nat_eq}
use Rattle.rsp_multiset.specs.Variables.{cell}
use Rattle.rsp_multiset.proofs.Columns.{one_cell_more}
use Rattle.rsp_multiset.proofs.variables.extended_cells.Goals as goal

pub loop-place-preserved : goal.loop-place-preserved
loop-place-preserved g c =
    one_cell_more
    (λ v. if nat_eq v c.args.variable then c.args.value.now else cell c.args.row.now v)
    _
    _
    _
    _
    c.loop-place.invariant
    c.in_ok-push.ensures.items
    c.in_ok-extended_cell.ensures
