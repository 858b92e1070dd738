use Rattle.std.proofs.Common.{◌≡◌, rules}
use Rattle.std.specs.Str.{IsUtf8}
use Rattle.std.proofs.lemmas.Str.{utf8_valid_len-IsUtf8}
use Rattle.std.proofs.lemmas.Grind.{common_steps}
use Rattle.rsp_scan.proofs.labels.valid_front.Goals as goal

pub returns-in-Ok : goal.returns-in-Ok
returns-in-Ok c =
    let same : c.in-Ok.all.now ≡ c.args.text.now = search rules in
    let whole : IsUtf8 c.args.text.now = search rules in
    rw (same, utf8_valid_len-IsUtf8 c.args.text.now whole) (search (rules, common_steps))
