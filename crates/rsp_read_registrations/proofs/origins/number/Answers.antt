use Rattle.std.proofs.Common.{◌≡◌, ◌+◌, ◌*◌, ◌∙◌, ap, sym, drop, get_or, min, arith, drop_of_length-le}
use Rattle.std.proofs.lemmas.List.{at_drop_more}
use Rattle.std.specs.Char.{digit_value}
use Rattle.std.specs.Str.Parse.{digits_value, digits_value_after}
use Rattle.rsp_read_registrations.proofs.Capped.{capped_step}
use Rattle.rsp_read_registrations.proofs.origins.number.Goals as goal

pub loop-digit-preserved : goal.loop-digit-preserved
loop-digit-preserved c =
    let step =
    c.saturating_add-value.ensures
    ∙ ap (λ n. min (n + c.digit_value.result) 18446744073709551615) c.saturating_mul.ensures
    ∙ ap (λ n. min (min (c.loop-digit.value * 10) 18446744073709551615 + n) 18446744073709551615) c.digit_value.ensures in (
      c.saturating_add-value.type_inv,
      capped_step c.loop-digit.value (digit_value (get_or c.args.digits.now c.loop-digit.digit-index 0)) 18446744073709551615 c.saturating_add-value.result
          (drop (c.loop-digit.digit-index + 1) c.args.digits.now) step
          ∙ sym (at_drop_more (λ xs. min (digits_value_after 10 c.loop-digit.value xs) 18446744073709551615) c.args.digits.now c.loop-digit.digit-index 0 c.loop-digit-test.true)
          ∙ c.loop-digit.invariant.1,
    )

pub returns : goal.returns
returns c =
    let all : min c.loop-digit.value 18446744073709551615 ≡ min (digits_value 10 c.args.digits.now) 18446744073709551615 =
    ap (λ xs. min (digits_value_after 10 c.loop-digit.value xs) 18446744073709551615) (sym (drop_of_length-le c.args.digits.now c.loop-digit-test.false))
    ∙ c.loop-digit.invariant.1 in
    omega (arith, all, c.loop-digit.invariant.0)
