use Rattle.std.proofs.Common.{◌≡◌, ◌∙◌, IsUtf8, false, length, nat_lt, rules}
use Rattle.std.proofs.lemmas.Str.{is_utf8-from_IsUtf8}
use Rattle.rsp_spec.specs.Limits.{most_text_bytes}
use Rattle.rsp_scan.proofs.Spelling.{not_utf8}
use Rattle.rsp_modes.proofs.FileFaults.{fault_of_bytes, no_fault_of_bytes}
use Rattle.rsp_modes.proofs.faults.text_in.Goals as goal

pub returns-in-Ok : goal.returns-in-Ok
returns-in-Ok c =
    let short : nat_lt most_text_bytes (length c.args.bytes.now) ≡ false = search rules in
    let whole : IsUtf8 c.args.bytes.now = search rules in
    let same : c.in-Ok.text.now ≡ c.args.bytes.now = search rules in
    (same, no_fault_of_bytes c.args.bytes.now short (is_utf8-from_IsUtf8 _ whole))

pub returns-in-Err : goal.returns-in-Err
returns-in-Err c =
    let short : nat_lt most_text_bytes (length c.args.bytes.now) ≡ false = search rules in
    let place = c.valid_up_to-at.ensures ∙ c.in-Err.ensures.valid_len in
    fault_of_bytes c.args.bytes.now _ short (not_utf8 _ c.in-Err.ensures.cases.0) place
