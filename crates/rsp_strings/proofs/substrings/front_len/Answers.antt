use Rattle.std.proofs.Common.{arith, ap, ◌∙◌, length, length-append}
use Rattle.std.specs.Char.{encode_utf8}
use Rattle.std.specs.Str.Iter.{chars_rest}
use Rattle.std.proofs.lemmas.Str.{IsUtf8-past_char}
use Rattle.rsp_strings.proofs.Fronts.{front_ended, front_boundary, front_more}
use Rattle.rsp_strings.proofs.substrings.front_len.Goals as goal

pub returns-then-left-eq0-clause-boundary : goal.returns-then-left-eq0-clause-boundary
returns-then-left-eq0-clause-boundary c =
    let same = front_ended _ _ _ _ c.if-left-eq0.true c.loop-character.invariant.front in
    rw same (front_boundary c.args.count c.args.text.now c.utf8.text)

pub loop-character-preserved : goal.loop-character-preserved
loop-character-preserved c =
    let held = c.loop-character.invariant in
    let parts = c.in-Some.ensures.steps.0 in
    let longer = ap length parts ∙ length-append (encode_utf8 c.in-Some.character) (chars_rest c.next.new.self) in
    let len = c.len_utf8-len.ensures.len in
    record {
      whole = IsUtf8-past_char _ _ c.in-Some.character held.whole parts;
      front =
          let step = front_more _ _ c.in-Some.character c.loop-character.left held.whole parts
          (let some = c.if-left-eq0.false in omega arith) in
          omega (arith, held.front, step, c.len_utf8-len.ensures.value);
      read = omega (arith, held.read, longer, len);
    }
