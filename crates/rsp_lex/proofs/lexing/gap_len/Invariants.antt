use Rattle.std.proofs.Common.{◌≡◌, ◌+◌, IsUtf8, length, false}
use Rattle.std.specs.Str.Iter.{chars_rest}
use Rattle.rsp_lex.proofs.GapLaws.{gap_at}
use Rattle.rsp_lex.proofs.lexing.gap_len.Given as goal

abbrev pub invariant-loop-character : goal.invariant-loop-character
invariant-loop-character l = record {
  whole : IsUtf8 (chars_rest l.character-iterator);
  gap : l.read + gap_at l.is_comment (chars_rest l.character-iterator) ≡ gap_at false l.fn.text;
  read : l.read + length (chars_rest l.character-iterator) ≡ length l.fn.text;
}
