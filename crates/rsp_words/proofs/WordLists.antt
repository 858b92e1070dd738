-- Words taken one behind another.
use Rattle.std.proofs.Common.{◌≡◌, ℕ, List, [], ◌∷◌, ◌++◌, length, drop, map, Option, None, Some, option_to_list, refl, sym, ◌∙◌, ap, append_assoc, append-nil, arith}

pub words_on : {X : Type 0} (f : X → List ℕ) (words now : List (List ℕ)) (x : X) (items rest all : List X) → items ≡ x ∷ rest → now ≡ words ++ f x ∷ [] → words ++ map f items ≡ map f all → now ++ map f rest ≡ map f all
words_on f words now x items rest all is more so_far =
    ap (λ ws. ws ++ map f rest) more ∙ (append_assoc words (f x ∷ []) (map f rest) ∙ (ap (λ xs. words ++ map f xs) (sym is) ∙ so_far))

empty_of : {X : Type 0} (items : List X) (count : ℕ) → count ≡ length items → count ≡ 0 → items ≡ []
empty_of [] count is none = refl
empty_of (x ∷ items) count is none = absurd (omega (arith, is, none))

pub words_all : {X : Type 0} (f : X → List ℕ) (words : List (List ℕ)) (items all : List X) (count : ℕ) → count ≡ length items → count ≡ 0 → words ++ map f items ≡ map f all → words ≡ map f all
words_all f words items all count is none so_far =
    sym (ap (λ xs. words ++ map f xs) (empty_of items count is none) ∙ append-nil words) ∙ so_far

-- what stands behind the first
pub behind_first : {X : Type 0} (first : Option X) (items rest : List X) (count : ℕ) → items ≡ option_to_list first ++ rest → count ≡ length items → (first ≡ None → count ≡ 0) → rest ≡ drop 1 items
behind_first None items rest count is size none =
    let nothing : items ≡ [] = empty_of items count size (none refl) in
    sym is ∙ (nothing ∙ sym (ap (λ xs. drop 1 xs) nothing))
behind_first (Some x) items rest count is size none = sym (ap (λ xs. drop 1 xs) is)
