use Rattle.std.proofs.Common.{◌≡◌, IsUtf8, rules}
use Rattle.std.proofs.lemmas.Str.{is_utf8-from_IsUtf8}
use Rattle.rsp_scan.proofs.Spelling.{not_utf8}
use Rattle.rsp_events.proofs.bodies.utf8.Goals as goal

pub returns-in-Ok : goal.returns-in-Ok
returns-in-Ok c =
    let whole : IsUtf8 c.args.line.now = search rules in
    let same : c.in-Ok.text.now ≡ c.args.line.now = search rules in
    (is_utf8-from_IsUtf8 _ whole, same)

pub returns-in-Err : goal.returns-in-Err
returns-in-Err c = not_utf8 _ c.in-Err.ensures.cases.0
