-- What the search of std says of an occurrence is what stands round the first one.
use Rattle.std.proofs.Common.{◌≡◌, ℕ, zero, suc, ◌<◌, ◌≤◌, Bool, true, false, List, [], ◌∷◌, ◌++◌, length, take, drop, refl, sym, ap, ◌∙◌, arith, Some, None}
use Rattle.std.specs.Prelude.{MatchBool, is_some}
use Rattle.std.specs.Option.{option_map}
use Rattle.std.specs.Str.Pattern.{FindsText, LacksTextAt, HasMatch, SplitsAroundMatch}
use Rattle.std.specs.Cmp.Lexicographic.{bytes_decides}
use Rattle.std.proofs.lemmas.List.{take-append-drop}
use Rattle.rsp_strings.specs.Occurrences.{begins_with, sides}

take_front : (xs ys : List ℕ) → take (length xs) (xs ++ ys) ≡ xs
take_front [] ys = refl
take_front (x ∷ xs) ys = ap (λ zs. x ∷ zs) (take_front xs ys)

drop_front : (xs ys : List ℕ) → drop (length xs) (xs ++ ys) ≡ ys
drop_front [] ys = refl
drop_front (x ∷ xs) ys = drop_front xs ys

begins_at_seam : (text part rest : List ℕ) → text ≡ part ++ rest → begins_with text part ≡ true
begins_at_seam text part rest is =
    (bytes_decides part (take (length part) text)).1 (sym (ap (take (length part)) is ∙ take_front part rest))

begins_parts : (text part : List ℕ) → begins_with text part ≡ true → text ≡ part ++ drop (length part) text
begins_parts text part begins =
    sym (take-append-drop (length part) text)
    ∙ ap (λ front. front ++ drop (length part) text) (sym ((bytes_decides part (take (length part) text)).0 begins))

not_begins : (b : Bool) (text part : List ℕ) → begins_with text part ≡ b
    → ((rest : List ℕ) → text ≡ part ++ rest → ⊥) → b ≡ false
not_begins false text part is lacks = refl
not_begins true text part is lacks = absurd (lacks (drop (length part) text) (begins_parts text part is))

pub lacks_begin : (text part : List ℕ) → ((rest : List ℕ) → text ≡ part ++ rest → ⊥) → begins_with text part ≡ false
lacks_begin text part lacks = not_begins (begins_with text part) text part refl lacks

here : (text part rest : List ℕ) → text ≡ part ++ rest → sides text part ≡ Some ([], rest)
here [] [] rest is = ap (λ ys. Some ([], ys)) is
here [] (p ∷ ps) rest is = cc
here (b ∷ bs) part rest is =
    rw (begins_at_seam (b ∷ bs) part rest is)
    (ap (λ ys. Some ([], ys)) (ap (drop (length part)) is ∙ drop_front part rest))

pub sides_found : (i : ℕ) (text part rest : List ℕ) → ((k : ℕ) → k < i → LacksTextAt part text k)
    → drop i text ≡ part ++ rest
    → sides text part ≡ Some (take i text, rest)
sides_found zero text part rest lacks is = here text part rest is
sides_found (suc i) [] part rest lacks is = absurd (lacks 0 (omega arith) rest is)
sides_found (suc i) (b ∷ bs) part rest lacks is =
    rw (lacks_begin (b ∷ bs) part (lacks 0 (omega arith)))
    (ap (option_map (λ both. (b ∷ both.0, both.1)))
    (sides_found i bs part rest (λ k below. lacks (suc k) (omega arith)) is))

pub sides_none : (text part : List ℕ) → ((k : ℕ) → k ≤ length text → LacksTextAt part text k) → sides text part ≡ None
sides_none [] part lacks = rw (lacks_begin [] part (lacks 0 (omega arith))) refl
sides_none (b ∷ bs) part lacks =
    rw (lacks_begin (b ∷ bs) part (lacks 0 (omega arith)))
    (ap (option_map (λ both. (b ∷ both.0, both.1))) (sides_none bs part (λ k within. lacks (suc k) (omega arith))))

pub contains_is : (r : Bool) (part text : List ℕ)
    → MatchBool r (HasMatch (FindsText part) text) (FindsText part text None)
    → r ≡ is_some (sides text part)
contains_is true part text found =
    let at = found.2 in
    sym (ap is_some (sides_found found.0 text part (drop found.1 text) at.0 at.1.split))
contains_is false part text none = sym (ap is_some (sides_none text part none))

pub sides_around : (text part front back : List ℕ) → SplitsAroundMatch (FindsText part) text front back
    → sides text part ≡ Some (front, back)
sides_around text part front back split =
    let at = split.2 in
    sides_found split.0 text part (drop split.1 text) at.0 at.1.split
    ∙ ap (λ xs. Some (xs, drop split.1 text)) (sym split.3)
    ∙ ap (λ ys. Some (front, ys)) (sym split.4)
