-- The steps of the loop that replaces escapes.
use Rattle.std.proofs.Common.{◌≡◌, ℕ, Option, None, Some, List, ◌++◌, length, refl, sym, ap, ◌∙◌, append_assoc, append-nil, IsUtf8, chars}
use Rattle.std.specs.Char.{encode_utf8}
use Rattle.std.specs.Str.{encode_utf8_all}
use Rattle.std.proofs.lemmas.List.{nil_from_length}
use Rattle.std.proofs.lemmas.Str.{chars-nil, chars_past_char}
use Rattle.rsp_said.specs.declared.escapes.State.{State}
use Rattle.rsp_said.specs.Escapes.{only, step, unescaped, unescaped_text}

-- in bytes
first_encoded : (o : Option ℕ) (cs : List ℕ) → encode_utf8_all (only o ++ cs) ≡ encode_utf8_all (only o) ++ encode_utf8_all cs
first_encoded None cs = refl
first_encoded (Some c) cs = ap (λ xs. xs ++ encode_utf8_all cs) (sym (append-nil (encode_utf8 c)))

-- one character more
pub one_more : (state : State) (old new : List ℕ) (c : ℕ) (front : List ℕ) → IsUtf8 old → old ≡ encode_utf8 c ++ new
    → (front ++ encode_utf8_all (only (step state c).1)) ++ unescaped_text (step state c).0 new ≡ front ++ unescaped_text state old
one_more state old new c front utf8 parts =
    append_assoc front (encode_utf8_all (only (step state c).1)) (unescaped_text (step state c).0 new)
    ∙ ap (λ xs. front ++ xs) (sym (first_encoded (step state c).1 (unescaped (step state c).0 (chars new))))
    ∙ ap (λ cs. front ++ encode_utf8_all (unescaped state cs)) (sym (chars_past_char old new c utf8 parts))

-- at the end
pub at_end : (state : State) (rest front : List ℕ) → length rest ≡ 0 → front ++ unescaped_text state rest ≡ front
at_end state rest front none =
    ap (λ xs. front ++ encode_utf8_all (unescaped state (chars xs))) (nil_from_length rest none)
    ∙ ap (λ cs. front ++ encode_utf8_all (unescaped state cs)) chars-nil
    ∙ append-nil front
