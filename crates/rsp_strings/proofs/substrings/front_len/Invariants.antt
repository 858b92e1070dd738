use Rattle.std.proofs.Common.{◌≡◌, ◌+◌, IsUtf8, length}
use Rattle.std.specs.Str.Iter.{chars_rest}
use Rattle.rsp_strings.proofs.Fronts.{front_bytes}
use Rattle.rsp_strings.proofs.substrings.front_len.Given as goal

abbrev pub invariant-loop-character : goal.invariant-loop-character
invariant-loop-character l = record {
  whole : IsUtf8 (chars_rest l.character-iterator);
  front : l.len + length (front_bytes l.left (chars_rest l.character-iterator))
      ≡ length (front_bytes l.fn.count l.fn.text);
  read : l.len + length (chars_rest l.character-iterator) ≡ length l.fn.text;
}
