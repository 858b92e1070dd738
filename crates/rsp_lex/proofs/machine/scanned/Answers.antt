use Rattle.std.proofs.Common.{◌∙◌, sym, ap, arith, length, length-append}
use Rattle.std.specs.Char.{encode_utf8}
use Rattle.std.specs.Str.Iter.{chars_rest}
use Rattle.std.proofs.lemmas.Str.{IsUtf8-past_char}
use Rattle.rsp_scan.proofs.ScannedBytes.{bytes_go, bytes_stop, bytes_read, end_within}
use Rattle.rsp_lex.specs.Kinds.{token_machine}
use Rattle.rsp_lex.proofs.ReachLaws.{read_goes, read_stops, read_none}
use Rattle.rsp_lex.proofs.machine.scanned.Goals as goal

pub returns-in_default-clause-len : goal.returns-in_default-clause-len
returns-in_default-clause-len c =
    let held = c.loop-character.invariant in
    sym (bytes_stop token_machine c.loop-character.state _ _ c.in-Some.character held.whole c.in-Some.ensures.steps.0 c.loop-character.len c.loop-character.read
    (sym c.step.ensures ∙ c.in_default.is)) ∙ held.best

pub returns-in_default-clause-read : goal.returns-in_default-clause-read
returns-in_default-clause-read c =
    let held = c.loop-character.invariant in
    let none = read_stops token_machine c.loop-character.state _ _ c.in-Some.character held.whole c.in-Some.ensures.steps.0 (sym c.step.ensures ∙ c.in_default.is) in
    omega (arith, none, held.reach)

pub loop-character-preserved : goal.loop-character-preserved
loop-character-preserved c =
    let held = c.loop-character.invariant in
    let parts = c.in-Some.ensures.steps.0 in
    let longer = ap length parts ∙ length-append (encode_utf8 c.in-Some.character) (chars_rest c.next.new.self) in
    let len = c.len_utf8-read.ensures.len in
    let value = c.len_utf8-read.ensures.value in
    let step = sym c.step.ensures ∙ c.in-Some-step.is in
    let more = read_goes token_machine c.loop-character.state _ _ c.in-Some.character held.whole parts c.in-Some-step.next step in
    record {
      whole = IsUtf8-past_char _ _ c.in-Some.character held.whole parts;
      best =
          rw (c.furthest-len.ensures, c.len_utf8-read.ensures.value, c.ends.ensures)
          (sym (bytes_go token_machine c.loop-character.state _ _ c.in-Some.character held.whole parts c.loop-character.len c.loop-character.read c.in-Some-step.next
          step) ∙ held.best);
      reach = omega (arith, held.reach, more, value);
      read = omega (arith, held.read, longer, len);
      within = rw c.furthest-len.ensures (end_within _ _ _ _ held.within);
    }

pub returns-clause-len : goal.returns-clause-len
returns-clause-len c =
    sym (bytes_read token_machine c.loop-character.state _ c.loop-character.len c.loop-character.read c.in-None.ensures.steps.0.0) ∙ c.loop-character.invariant.best

pub returns-clause-read : goal.returns-clause-read
returns-clause-read c =
    let none = read_none token_machine c.loop-character.state _ c.in-None.ensures.steps.0.0 in
    let all = c.loop-character.invariant.reach in
    omega (arith, none, all)
