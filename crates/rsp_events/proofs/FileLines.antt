-- The first line of a file, and the lines behind it.
use Rattle.std.proofs.Common.{◌≡◌, ℕ, ◌+◌, false, List, [], ◌∷◌, ◌++◌, length, take, drop, refl, sym, ap, subst, ◌∙◌, arith}
use Rattle.std.specs.Prelude.{◌==◌}
use Rattle.std.specs.List.{position_or_len}
use Rattle.std.specs.Str.Lines.{strip_carriage_return}
use Rattle.std.proofs.lemmas.List.{take-append-drop}
use Rattle.std.proofs.lemmas.Bool.Decides.{nat_tests}
use Rattle.rsp_events.specs.Lines.{parts}
use Rattle.rsp_events.specs.Begun.{IsInLine}
use Rattle.rsp_events.specs.FileLines.{FileLine, lines_from}
use Rattle.rsp_events.proofs.Cutting.{cut}
use Rattle.rsp_events.proofs.Reading.{all_in_front, feed_behind, in_front}

part_alone : (front : List ℕ) → IsInLine front → parts front ≡ front ∷ []
part_alone [] h = refl
part_alone (b ∷ bs) h = let other : (b == 10) ≡ false = grind (arith, nat_tests) in
    rw (other, part_alone bs (h.1)) refl

part_before : (front next : List ℕ) → IsInLine front → parts (front ++ (10 ∷ next)) ≡ front ∷ parts next
part_before [] next h = refl
part_before (b ∷ bs) next h = let other : (b == 10) ≡ false = grind (arith, nat_tests) in
    rw (other, part_before bs next (h.1)) refl

abbrev numbered : ℕ → List ℕ → FileLine
numbered n text = record { number = n; text = text }

pub last_line : (n at : ℕ) (lines front back : List ℕ) → (length lines ≡ 0 → ⊥) → at ≡ position_or_len (λ b. b == 10) lines
    → front ≡ take at lines → back ≡ drop at lines → length back ≡ 0
    → lines_from n lines ≡ record { number = n; text = front } ∷ lines_from (n + 1) back
last_line n at [] front back some is_at is_front is_back none = absurd (some refl)
last_line n at (b ∷ bs) front [] some is_at is_front is_back none =
    let whole : (b ∷ bs) ≡ front = all_in_front (b ∷ bs) front [] at is_front is_back none in
    let inside : IsInLine front = rw (is_front, is_at) (in_front (b ∷ bs)) in
    let holds : (length (b ∷ bs) == 0) ≡ false = grind (arith, nat_tests) in
    rw (part_alone (b ∷ bs) (subst IsInLine (sym whole) inside), holds) (ap (λ (t : List ℕ). numbered n t ∷ []) whole)
last_line n at (b ∷ bs) front (x ∷ xs) some is_at is_front is_back none = cc

pub first_line : (n at : ℕ) (lines front back next : List ℕ) (x : ℕ) → at ≡ position_or_len (λ b. b == 10) lines
    → front ≡ take at lines → back ≡ drop at lines → back ≡ x ∷ next
    → lines_from n lines ≡ record { number = n; text = strip_carriage_return front } ∷ lines_from (n + 1) next
first_line n at lines front back next x is_at is_front is_back cut_back =
    let behind : back ≡ 10 ∷ next = feed_behind lines back next x at is_at is_back cut_back in
    let inside : IsInLine front = rw (is_front, is_at) (in_front lines) in
    let whole : lines ≡ front ++ (10 ∷ next)
    = sym (take-append-drop at lines) ∙ rw (← is_front, ← is_back) (ap (λ b. front ++ b) behind) in
    let c = cut next in
    rw (whole, part_before front next inside, c.is) refl
