-- Two tests that both are true, numbers that test equal, and lists of ASCII.
use Rattle.std.proofs.Common.{◌≡◌, ◌≢◌, ℕ, zero, suc, ◌<◌, ◌==◌, Bool, true, false, ◌&&◌, true≢false, List, [], ◌∷◌, IsAscii, refl, sym, arith}
use Rattle.std.specs.List.{list_all}
use Rattle.std.proofs.lemmas.Bool.Decides.{nat_tests}

pub both_are : (a b : Bool) → (a && b) ≡ true → (a ≡ true) × (b ≡ true)
both_are true b h = (refl, h)
both_are false b h = absurd (true≢false (sym h))

pub and_left : (a b : Bool) → (a && b) ≡ true → a ≡ true
and_left a b h = (both_are a b h).0

pub and_right : (a b : Bool) → (a && b) ≡ true → b ≡ true
and_right a b h = (both_are a b h).1

pub equal_from : (c d : ℕ) → (c == d) ≡ true → c ≡ d
equal_from c d h = grind (arith, nat_tests)

pub differs : (c d : ℕ) → c ≢ d → (c == d) ≡ false
differs c d other = grind (arith, nat_tests)

pub all_ascii : (p : ℕ → Bool) → ((c : ℕ) → p c ≡ true → c < 128) → (xs : List ℕ) → list_all p xs ≡ true → IsAscii xs
all_ascii p below [] h i = omega arith
all_ascii p below (x ∷ xs) h zero = below x (and_left (p x) (list_all p xs) h)
all_ascii p below (x ∷ xs) h (suc i) = all_ascii p below xs (and_right (p x) (list_all p xs) h) i
