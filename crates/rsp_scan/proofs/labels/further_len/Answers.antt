use Rattle.std.proofs.Common.{◌∙◌, sym, ap, arith, length, length-append}
use Rattle.std.specs.Char.{encode_utf8}
use Rattle.std.specs.Str.Iter.{chars_rest}
use Rattle.std.proofs.lemmas.Str.{IsUtf8-past_char}
use Rattle.rsp_scan.proofs.LongestLabel.{label_goes, label_stops, label_read}
use Rattle.rsp_scan.proofs.ScannedBytes.{end_within}
use Rattle.rsp_scan.proofs.labels.further_len.Goals as goal

pub returns-then-not-is_label_character-clause-value : goal.returns-then-not-is_label_character-clause-value
returns-then-not-is_label_character-clause-value c =
    let held = c.loop-character.invariant in
    let fails = sym c.is_label_character.ensures ∙ c.if-not-is_label_character.true in
    sym (label_stops _ _ c.in-Some.character held.whole c.in-Some.ensures.steps.0 c.loop-character.end c.loop-character.read fails) ∙ held.best

pub loop-character-preserved : goal.loop-character-preserved
loop-character-preserved c =
    let held = c.loop-character.invariant in
    let parts = c.in-Some.ensures.steps.0 in
    let passes = sym c.is_label_character.ensures ∙ c.if-not-is_label_character.false in
    let longer = ap length parts ∙ length-append (encode_utf8 c.in-Some.character) (chars_rest c.next.new.self) in
    let len = c.len_utf8-read.ensures.len in
    record {
      whole = IsUtf8-past_char _ _ c.in-Some.character held.whole parts;
      best =
          rw (c.furthest-end.ensures, c.len_utf8-read.ensures.value)
          (sym (label_goes _ _ c.in-Some.character held.whole parts c.loop-character.end c.loop-character.read passes) ∙ held.best);
      read = omega (arith, held.read, longer, len);
      within = rw c.furthest-end.ensures (end_within _ _ _ _ held.within);
    }

pub returns-clause-value : goal.returns-clause-value
returns-clause-value c =
    sym (label_read _ c.loop-character.end c.loop-character.read c.in-None.ensures.steps.0.0) ∙ c.loop-character.invariant.best
