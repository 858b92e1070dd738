use Rattle.std.proofs.Common.{refl}
use Rattle.rsp_windows.proofs.Rows.{least_in_row, none_in_row}
use Rattle.rsp_windows.proofs.congruence.next_shared.Goals as goal

pub returns-in_err-row : goal.returns-in_err-row
returns-in_err-row c = rw c.from_residual.ensures (λ t low high shared. c.in_err-row.ensures.none refl t shared)

pub returns-then-at-to : goal.returns-then-at-to
returns-then-at-to c =
    least_in_row _ _ _ _ _ _ _ _ c.in_ok-row.ensures.row c.first_from-at.ensures.late c.if-at-to.true c.first_from-at.ensures.on
    c.first_from-at.ensures.least

pub returns-else-at-to : goal.returns-else-at-to
returns-else-at-to c = none_in_row _ _ _ _ _ _ _ _ c.in_ok-row.ensures.row c.if-at-to.false c.first_from-at.ensures.least
