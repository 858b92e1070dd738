use Rattle.std.proofs.Common.{◌∙◌, ap, length, Some}
use Rattle.rsp_number.specs.Decimals.{shortest_form}
use Rattle.rsp_number.specs.Texts.{number_after}
use Rattle.rsp_number.proofs.Writing.{number-append, exactly-many, exactly-past, exactly-some}
use Rattle.rsp_number.proofs.written.written_decimal.Goals as goal

pub returns-then-digits : goal.returns-then-digits
returns-then-digits c =
    let before = number_after 0 c.args.whole.now in
    let digits = c.without_last_zeros-digits.result.now in
    rw (number-append 0 c.args.whole.now c.args.fraction.now)
    (exactly-many c.args.negative (number_after before c.args.fraction.now) (length c.args.fraction.now)
    (number_after before digits) (length digits) (c.without_last_zeros-digits.ensures.same c.args.negative before)
    (c.without_last_zeros-digits.ensures.shortest c.args.negative before) c.if-digits.true)

pub returns-in-Some : goal.returns-in-Some
returns-in-Some c =
    let before = number_after 0 c.args.whole.now in
    let digits = c.without_last_zeros-digits.result.now in
    rw (number-append 0 c.args.whole.now c.args.fraction.now)
    (ap Some c.shortest.ensures
    ∙ ap (λ size. Some (shortest_form c.args.negative size (length c.without_last_zeros-digits.result.now))) c.in-Some.ensures.1
    ∙ exactly-some c.args.negative (number_after before c.args.fraction.now) (length c.args.fraction.now)
    (number_after before digits) (length digits) (c.without_last_zeros-digits.ensures.same c.args.negative before)
    (c.without_last_zeros-digits.ensures.shortest c.args.negative before) c.if-digits.false c.in-Some.ensures.0)

pub returns-in-None : goal.returns-in-None
returns-in-None c =
    let before = number_after 0 c.args.whole.now in
    let digits = c.without_last_zeros-digits.result.now in
    rw (number-append 0 c.args.whole.now c.args.fraction.now)
    (exactly-past c.args.negative (number_after before c.args.fraction.now) (length c.args.fraction.now)
    (number_after before digits) (length digits) (c.without_last_zeros-digits.ensures.same c.args.negative before)
    (c.without_last_zeros-digits.ensures.shortest c.args.negative before) c.if-digits.false c.in-None.ensures)
