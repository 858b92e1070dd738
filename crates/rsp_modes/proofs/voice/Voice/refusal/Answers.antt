use Rattle.rsp_modes.specs.Reasons.{reason_of}
use Rattle.rsp_modes.proofs.Voicing.{says_refusal}
use Rattle.rsp_modes.proofs.voice.Voice.refusal.Goals as goal

pub returns-in-Writes-clause-says : goal.returns-in-Writes-clause-says
returns-in-Writes-clause-says g c =
    rw
    c.in-Writes.is
    (says_refusal c.in-Writes.field-0 _ _ c.args.place (reason_of c.args.answered) c.refuse-refused.result
    c.refuse-refused.ensures.text
    c.refuse-refused.ensures.stays
    c.refuse-refused.ensures.refused)
