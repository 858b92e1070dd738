use Rattle.std.proofs.Common.{◌^◌}
use Rattle.rsp_literals.proofs.Sizes.{goes}
use Rattle.rsp_literals.proofs.forms.size_up_to_bound.Goals as goal

pub loop-digit-preserved : goal.loop-digit-preserved
loop-digit-preserved c =
    let held = c.loop-digit.invariant in
    let next = goes c.loop-digit.size _ c.loop-digit.digit-index
    (2 ^ 64) c.args.digits.now _ c.loop-digit-test.true c.min-size.ensures held.digits held.value in
    record { within = next.within; digits = next.digits; value = next.value }
