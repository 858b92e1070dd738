use Rattle.std.proofs.Common.{◌≡◌, length, arith}
use Rattle.std.specs.Prelude.{◌≢◌}
use Rattle.std.proofs.lemmas.Bool.Decides.{nat_tests}
use Rattle.rsp_text.specs.Fronts.{is_blank}
use Rattle.rsp_events.proofs.Parted.{next_part, no_part}
use Rattle.rsp_events.proofs.fields.next_field.Goals as goal

pub returns-then-is_empty : goal.returns-then-is_empty
returns-then-is_empty c =
    let test = c.is_empty.ensures in
    let passed = c.if-is_empty.true in
    let none : length c.behind_blanks-text.result.now ≡ 0 = grind (arith, nat_tests) in
    no_part is_blank c.args.text.now _ c.behind_blanks-text.ensures none

pub returns : goal.returns
returns c =
    let test = c.is_empty.ensures in
    let passed = c.if-is_empty.false in
    let some : length c.behind_blanks-text.result.now ≢ 0 = grind (arith, nat_tests) in
    rw (c.split_at.ensures.front, c.split_at.ensures.back)
    (next_part is_blank c.args.text.now _ _ c.behind_blanks-text.ensures some c.first_blank.ensures.place)
