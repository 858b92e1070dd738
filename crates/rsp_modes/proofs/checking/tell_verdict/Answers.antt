use Rattle.std.proofs.Common.{Some, ◌∷◌, [], sym, subst, ◌∙◌}
use Rattle.rsp_engine.specs.declared.refused.Refused.TheVariants.{Text}
use Rattle.rsp_words.specs.declared.form.Form.TheVariants.{Table}
use Rattle.rsp_modes.specs.declared.refusals.Place.TheVariants.{Query}
use Rattle.rsp_modes.specs.declared.voice.Voice.TheVariants.{Writes}
use Rattle.rsp_modes.specs.Checks.{verdict}
use Rattle.rsp_modes.specs.Refusals.{of_event}
use Rattle.rsp_modes.specs.Sayings.{Says}
use Rattle.rsp_modes.specs.Voices.{refusal_said}
use Rattle.rsp_modes.proofs.Voicing.{says_refusal, written_says}
use Rattle.rsp_modes.proofs.checking.tell_verdict.Goals as goal

pub returns-in-Ok-Some : goal.returns-in-Ok-Some
returns-in-Ok-Some g c =
    subst (λ fault. Says Table (g.K.Sink.seen c.args.out.now) (g.K.Sink.seen c.refuse.new.out) (verdict fault ∷ []) c.refuse.result)
    (sym c.in-Ok-Some.field-0-is ∙ c.in-Ok-Some.ensures)
    (written_says Table (Writes Table) _ _ (refusal_said Query (Some (of_event (Text c.in-Ok-Some.fault)))) c.refuse.result
    (says_refusal Table _ _ Query (Some (of_event (Text c.in-Ok-Some.fault))) c.refuse.result
    c.refuse.ensures.text
    c.refuse.ensures.stays
    c.refuse.ensures.refused))
