-- A tag that begins with a range and `-`, in letters of either case.
use Rattle.std.proofs.Common.{◌≡◌, ℕ, ◌<◌, Bool, true, false, List, [], ◌∷◌, ◌++◌, length, take, get_or, refl, sym, ap, ◌∙◌, arith, map}
use Rattle.std.specs.Prelude.{nat_eq, ◌==◌, ◌&&◌}
use Rattle.std.specs.Char.{to_ascii_lowercase}
use Rattle.std.specs.List.{starts_with}
use Rattle.std.specs.Str.{str_to_ascii_lowercase}
use Rattle.std.proofs.lemmas.Bool.Decides.{nat_tests}
use Rattle.std.proofs.lemmas.List.{take-map}
use Rattle.rsp_strings.proofs.Sides.{lacks_begin}

abbrev pub begins_within : List ℕ → List ℕ → Bool
begins_within tag range = starts_with nat_eq (str_to_ascii_lowercase tag) (str_to_ascii_lowercase range ++ (45 ∷ []))

hyphen : (b : ℕ) → (b == 45) ≡ (45 == to_ascii_lowercase b && true)
hyphen b = grind (arith, nat_tests)

pub at_hyphen : (tag range : List ℕ) → length range < length tag
    → map to_ascii_lowercase (take (length range) tag) ≡ map to_ascii_lowercase range
    → (get_or tag (length range) 0 == 45) ≡ begins_within tag range
at_hyphen [] range short same = absurd (omega arith)
at_hyphen (b ∷ bs) [] short same = hyphen b
at_hyphen (b ∷ bs) (r ∷ rs) short same =
    let first : to_ascii_lowercase b ≡ to_ascii_lowercase r = cc in
    let others : map to_ascii_lowercase (take (length rs) bs) ≡ map to_ascii_lowercase rs = cc in
    let equal : (to_ascii_lowercase r == to_ascii_lowercase b) ≡ true = grind (arith, nat_tests) in
    rw equal (at_hyphen bs rs (omega arith) others)

take_mapped : (f : ℕ → ℕ) (xs ys zs : List ℕ) → take (length xs) ((map f xs ++ ys) ++ zs) ≡ map f xs
take_mapped f [] ys zs = refl
take_mapped f (x ∷ xs) ys zs = ap (λ us. f x ∷ us) (take_mapped f xs ys zs)

pub other_front : (tag range : List ℕ) → (map to_ascii_lowercase (take (length range) tag)
    ≡ map to_ascii_lowercase range → ⊥)
    → begins_within tag range ≡ false
other_front tag range differs =
    lacks_begin (map to_ascii_lowercase tag) (map to_ascii_lowercase range ++ (45 ∷ []))
    (λ rest is. differs
    (sym (take-map to_ascii_lowercase (length range) tag)
    ∙ ap (take (length range)) is
    ∙ take_mapped to_ascii_lowercase range (45 ∷ []) rest))
