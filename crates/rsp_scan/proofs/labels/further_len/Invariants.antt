use Rattle.std.proofs.Common.{◌≡◌, ◌+◌, ◌≤◌, IsUtf8, chars, length}
use Rattle.std.specs.Str.Iter.{chars_rest}
use Rattle.rsp_scan.specs.Scans.{further_bytes}
use Rattle.rsp_scan.proofs.Best.{best}
use Rattle.rsp_scan.proofs.labels.further_len.Given as goal

abbrev pub invariant-loop-character : goal.invariant-loop-character
invariant-loop-character l = record {
  whole : IsUtf8 (chars_rest l.character-iterator);
  best : best l.end l.read (further_bytes (chars (chars_rest l.character-iterator))) ≡ further_bytes (chars l.fn.text);
  read : l.read + length (chars_rest l.character-iterator) ≡ length l.fn.text;
  within : l.end ≤ l.read;
}
