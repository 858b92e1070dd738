use Rattle.std.proofs.Common.{◌∙◌, refl, sym, codes}
use Rattle.rsp_text.proofs.DigitLaws.{digits_in_either}
use Rattle.rsp_text.proofs.instants.offset.Goals as goal

pub number-hours-requires-clause-digits : goal.number-hours-requires-clause-digits
number-hours-requires-clause-digits c =
    digits_in_either 2 1 (codes "+00:00") (codes "-00:00") c.args.zone.now
    (sym c.has_offset_form.ensures.value ∙ c.if-not-has_offset_form.false) refl refl

pub number-minutes-requires-clause-digits : goal.number-minutes-requires-clause-digits
number-minutes-requires-clause-digits c =
    digits_in_either 2 4 (codes "+00:00") (codes "-00:00") c.args.zone.now
    (sym c.has_offset_form.ensures.value ∙ c.if-not-has_offset_form.false) refl refl
