use Rattle.std.proofs.Common.{refl, string_bytes, ◌∙◌}
use Rattle.rsp_modes.specs.Reasons.{reason_of}
use Rattle.rsp_modes.specs.Refusals.{place_text}
use Rattle.rsp_modes.proofs.Tellings.{line_is}
use Rattle.rsp_modes.proofs.refusals.line.Goals as goal

pub returns-in_ok-line_at-in-Some : goal.returns-in_ok-line_at-in-Some
returns-in_ok-line_at-in-Some c =
    line_is c.args.place (reason_of c.args.answered.now) c.in-Some.number c.in-Some.name.now (place_text c.args.place)
    c.as_str.result.now (string_bytes c.in_ok-line_at-in-Some.field-0)
    c.in-Some.ensures
    refl
    (λ reason is. c.as_str.ensures.value ∙ c.in_ok-details-in-Some.ensures reason is)
    c.in_ok-line_at-in-Some.ensures
