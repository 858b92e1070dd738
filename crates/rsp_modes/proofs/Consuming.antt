-- Bytes taken from those left, where they are told.
use Rattle.std.proofs.Common.{◌≡◌, ℕ, zero, suc, ◌≤◌, List, [], ◌∷◌, ◌++◌, length, take, Option, Some, None, refl, sym, ◌∙◌, ap, append_assoc, arith}
use Rattle.std.proofs.lemmas.List.{length-take}
use Rattle.std.specs.Io.KnownBytes.{Consumes}

pub consumed_nothing : (left : Option (List ℕ)) → Consumes left left []
consumed_nothing None = tt
consumed_nothing (Some bytes) = refl

pub consumed_more : (a b c : Option (List ℕ)) (x y : List ℕ) → Consumes a b x → Consumes b c y → Consumes a c (x ++ y)
consumed_more None b c x y first second = tt
consumed_more (Some a) None c x y first second = absurd first
consumed_more (Some a) (Some b) None x y first second = absurd second
consumed_more (Some a) (Some b) (Some c) x y first second = first ∙ (ap (λ bytes. x ++ bytes) second ∙ sym (append_assoc x y c))

-- none of a list is its first none
pub first_none : (bytes : List ℕ) (n : ℕ) → n ≡ 0 → take n bytes ≡ []
first_none [] n is = rw is refl
first_none (byte ∷ bytes) n is = rw is refl

-- as many as were taken
pub first_many : (bytes : List ℕ) (n : ℕ) → n ≤ length bytes → n ≡ length (take n bytes)
first_many bytes n low = let size = length-take n bytes in omega (arith, size, low)

-- the first of what stands in front
pub first_of_front : (xs ys : List ℕ) (n : ℕ) → n ≤ length xs → take n (xs ++ ys) ≡ take n xs
first_of_front [] ys n low =
    let none : n ≡ 0 = omega (arith, low) in
    first_none ys n none ∙ sym (first_none [] n none)
first_of_front (x ∷ xs) ys zero low = refl
first_of_front (x ∷ xs) ys (suc n) low = ap (λ l. x ∷ l) (first_of_front xs ys n (omega (arith, low)))
