use Rattle.std.proofs.Common.{◌∙◌, sym, ap, arith, length, length-append}
use Rattle.std.specs.Char.{encode_utf8}
use Rattle.std.specs.Str.Iter.{chars_rest}
use Rattle.std.proofs.lemmas.Str.{IsUtf8-past_char}
use Rattle.rsp_lex.proofs.GapLaws.{gap_is, gap_goes, gap_stops, gap_read}
use Rattle.rsp_lex.proofs.lexing.gap_len.Goals as goal

pub returns-in_default-clause-value : goal.returns-in_default-clause-value
returns-in_default-clause-value c =
    let held = c.loop-character.invariant in
    let none = gap_stops c.loop-character.is_comment _ _ c.in-Some.character held.whole c.in-Some.ensures.steps.0 (sym c.gap_step.ensures ∙ c.in_default.is) in
    let gap = held.gap in
    let is = gap_is c.args.text.now in
    omega (arith, none, gap, is)

pub loop-character-preserved : goal.loop-character-preserved
loop-character-preserved c =
    let held = c.loop-character.invariant in
    let parts = c.in-Some.ensures.steps.0 in
    let longer = ap length parts ∙ length-append (encode_utf8 c.in-Some.character) (chars_rest c.next.new.self) in
    let len = c.len_utf8-read.ensures.len in
    let value = c.len_utf8-read.ensures.value in
    let more = gap_goes c.loop-character.is_comment _ _ c.in-Some.character held.whole parts c.in-Some-gap_step.next (sym c.gap_step.ensures ∙ c.in-Some-gap_step.is) in
    record {
      whole = IsUtf8-past_char _ _ c.in-Some.character held.whole parts;
      gap = omega (arith, held.gap, more, value);
      read = omega (arith, held.read, longer, len);
    }

pub returns-clause-value : goal.returns-clause-value
returns-clause-value c =
    let none = gap_read c.loop-character.is_comment _ c.in-None.ensures.steps.0.0 in
    let gap = c.loop-character.invariant.gap in
    let is = gap_is c.args.text.now in
    omega (arith, none, gap, is)
