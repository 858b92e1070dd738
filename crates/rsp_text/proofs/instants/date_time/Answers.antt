use Rattle.std.proofs.Common.{◌∙◌, refl, sym, codes}
use Rattle.rsp_text.proofs.DigitLaws.{digits_in_form}
use Rattle.rsp_text.proofs.InstantLaws.{date_time_is, no_date_time}
use Rattle.rsp_text.proofs.instants.date_time.Goals as goal

pub returns-then-not-has_form-clause-value : goal.returns-then-not-has_form-clause-value
returns-then-not-has_form-clause-value c = no_date_time c.args.text.now (sym c.has_form.ensures.value ∙ c.if-not-has_form.true)

pub number-requires-clause-digits : goal.number-requires-clause-digits
number-requires-clause-digits c =
    digits_in_form 4 0 (codes "0000-00-00T00:00:00") c.args.text.now (sym c.has_form.ensures.value ∙ c.if-not-has_form.false) refl

pub number-requires-2-clause-digits : goal.number-requires-2-clause-digits
number-requires-2-clause-digits c =
    digits_in_form 2 5 (codes "0000-00-00T00:00:00") c.args.text.now (sym c.has_form.ensures.value ∙ c.if-not-has_form.false) refl

pub number-requires-3-clause-digits : goal.number-requires-3-clause-digits
number-requires-3-clause-digits c =
    digits_in_form 2 8 (codes "0000-00-00T00:00:00") c.args.text.now (sym c.has_form.ensures.value ∙ c.if-not-has_form.false) refl

pub number-requires-4-clause-digits : goal.number-requires-4-clause-digits
number-requires-4-clause-digits c =
    digits_in_form 2 11 (codes "0000-00-00T00:00:00") c.args.text.now (sym c.has_form.ensures.value ∙ c.if-not-has_form.false) refl

pub number-requires-5-clause-digits : goal.number-requires-5-clause-digits
number-requires-5-clause-digits c =
    digits_in_form 2 14 (codes "0000-00-00T00:00:00") c.args.text.now (sym c.has_form.ensures.value ∙ c.if-not-has_form.false) refl

pub number-requires-6-clause-digits : goal.number-requires-6-clause-digits
number-requires-6-clause-digits c =
    digits_in_form 2 17 (codes "0000-00-00T00:00:00") c.args.text.now (sym c.has_form.ensures.value ∙ c.if-not-has_form.false) refl

pub returns-clause-value : goal.returns-clause-value
returns-clause-value c =
    date_time_is c.args.text.now _ _ _ _ _ _ _ c.number.ensures.value c.number-2.ensures.value c.number-3.ensures.value
    c.number-4.ensures.value c.number-5.ensures.value c.number-6.ensures.value
    (sym c.has_form.ensures.value ∙ c.if-not-has_form.false) c.date_time_of.ensures.value
