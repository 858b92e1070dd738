use Rattle.std.proofs.Common.{arith, refl, ◌≡◌, ◌+◌, ◌*◌, ◌/◌, ◌%◌, ◌<◌}
use Rattle.rsp_windows.proofs.Divisors.{second_divides, two_steps}
use Rattle.rsp_windows.proofs.congruence.+divide_out.Goals as goal

pub returns-then-second-eq0 : goal.returns-then-second-eq0
returns-then-second-eq0 n c =
    let some : 0 < c.args.a % c.args.b = grind (arith, c.if-rest-eq0.false) in
    second_divides c.args.a c.args.b _ c.requires.b_low some refl c.if-second-eq0.true

pub overflow_add-less : goal.overflow_add-less
overflow_add-less n c =
    let a_is : c.args.a ≡ c.args.a / c.args.b * c.args.b + c.args.a % c.args.b = grind arith in
    let b_is : c.args.b ≡ c.args.b / (c.args.a % c.args.b) * (c.args.a % c.args.b) + c.args.b % (c.args.a % c.args.b) = grind arith in
    let is = two_steps c.args.a c.args.b (c.args.a / c.args.b) _ (c.args.b / (c.args.a % c.args.b)) _ _ _ _ a_is b_is c.divide_out-inner.ensures in
    omega (arith, is.less_high, c.ranges.a.fits)

pub returns : goal.returns
returns n c =
    let a_is : c.args.a ≡ c.args.a / c.args.b * c.args.b + c.args.a % c.args.b = grind arith in
    let b_is : c.args.b ≡ c.args.b / (c.args.a % c.args.b) * (c.args.a % c.args.b) + c.args.b % (c.args.a % c.args.b) = grind arith in
    two_steps c.args.a c.args.b (c.args.a / c.args.b) _ (c.args.b / (c.args.a % c.args.b)) _ _ _ _ a_is b_is c.divide_out-inner.ensures
