use Rattle.std.proofs.Common.{◌≡◌, string_bytes}
use Rattle.rsp_modes.specs.Reasons.{reason_of}
use Rattle.rsp_modes.proofs.Tellings.{line_written}
use Rattle.rsp_modes.proofs.refusals.write_line.Goals as goal

pub returns-in_ok-write_all-in-Ok-Some-clause-text : goal.returns-in_ok-write_all-in-Ok-Some-clause-text
returns-in_ok-write_all-in-Ok-Some-clause-text g c text is =
    let told = rw c.in-Ok-Some.field-0-is at c.in-Ok-Some.ensures in
    let line : text ≡ string_bytes c.in-Ok-Some.line = line_written c.args.place (reason_of c.args.answered.now) (string_bytes c.in-Ok-Some.line) text told is in
    rw (line, ← c.as_bytes.ensures.value) c.in_ok-write_all-in-Ok-Some.ensures.text
