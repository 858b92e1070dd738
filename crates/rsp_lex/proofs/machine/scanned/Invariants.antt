use Rattle.std.proofs.Common.{◌≡◌, ◌+◌, ◌≤◌, IsUtf8, chars, length}
use Rattle.std.specs.Str.Iter.{chars_rest}
use Rattle.rsp_scan.specs.Scans.{scanned_bytes}
use Rattle.rsp_scan.proofs.Best.{best}
use Rattle.rsp_lex.specs.Kinds.{token_machine}
use Rattle.rsp_lex.specs.Reach.{read_bytes}
use Rattle.rsp_lex.proofs.machine.scanned.Given as goal

abbrev pub invariant-loop-character : goal.invariant-loop-character
invariant-loop-character l = record {
  whole : IsUtf8 (chars_rest l.character-iterator);
  best : best l.len l.read (scanned_bytes token_machine l.state (chars (chars_rest l.character-iterator)))
      ≡ scanned_bytes token_machine l.fn.begun (chars l.fn.text);
  reach : l.read + read_bytes token_machine l.state (chars (chars_rest l.character-iterator))
      ≡ read_bytes token_machine l.fn.begun (chars l.fn.text);
  read : l.read + length (chars_rest l.character-iterator) ≡ length l.fn.text;
  within : l.len ≤ l.read;
}
