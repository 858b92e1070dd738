use Rattle.std.proofs.Common.{◌≤◌, ◌+◌, ◌*◌, ◌^◌, arith}
use Rattle.rsp_scan.proofs.Fronts.{digit_fits}
use Rattle.rsp_scan.proofs.escapes.value_of.Goals as goal

pub overflow_mul-value : goal.overflow_mul-value
overflow_mul-value c =
    let fits : 16 * c.loop-digit.value + 16 ≤ 16 ^ 8 = digit_fits _ _ c.loop-digit.invariant.small (omega arith) in
    omega arith

pub overflow_add-value : goal.overflow_add-value
overflow_add-value c =
    let fits : 16 * c.loop-digit.value + 16 ≤ 16 ^ 8 = digit_fits _ _ c.loop-digit.invariant.small (omega arith) in
    let digit = c.digit_value.ensures.bound in
    omega arith
