use Rattle.std.proofs.Common.{◌≡◌, IsUtf8, chars}
use Rattle.std.specs.Str.Iter.{chars_rest}
use Rattle.rsp_terms.proofs.CharacterSteps.{ends_label}
use Rattle.rsp_terms.proofs.characters.continues_label.Given as goal

abbrev pub invariant-loop-character : goal.invariant-loop-character
invariant-loop-character l = record {
  whole : IsUtf8 (chars_rest l.character-iterator);
  same : ends_label l.last (chars (chars_rest l.character-iterator)) ≡ ends_label l.fn.first (chars l.fn.others);
}
