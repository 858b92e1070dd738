use Rattle.rsp_modes.specs.Checks.{checked}
use Rattle.rsp_modes.proofs.Answering.{not_read, told_one}
use Rattle.rsp_words.specs.declared.form.Form.TheVariants.{Table}
use Rattle.rsp_modes.proofs.checking.check.Goals as goal

pub returns-in-Ok : goal.returns-in-Ok
returns-in-Ok g c =
    let told = rw c.as_slice.ensures.value at c.tell_verdict.ensures in
    record { file = rw c.status_of.ensures (told_one Table c.args.query.now checked _ _ _ _ c.in-Ok.bytes.items c.tell_verdict.result c.in-Ok.ensures.file told) }

pub returns-in-Err : goal.returns-in-Err
returns-in-Err g c =
    record { file = rw c.status_of_unread.ensures (not_read Table c.args.query.now checked _ _ _ c.in-Err.unread c.in-Err.ensures.file) }
