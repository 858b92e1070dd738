-- The items at places from one on, and before another, are what is left after a cut.
use Rattle.std.proofs.Common.{◌≡◌, ℕ, zero, suc, ◌+◌, ◌<◌, ◌≤◌, Bool, true, false, List, [], ◌∷◌, take, drop, refl, ap, arith, if◌then◌else◌}
use Rattle.std.specs.Prelude.{ℤ, pos, negsuc, ◌+ℤ◌, ◌&&◌, int_lt}
use Rattle.std.proofs.lemmas.Bool.Decides.{nat_tests}
use Rattle.std.proofs.lemmas.Int.{ints}
use Rattle.rsp_strings.specs.Substrings.{items_at, is_from, is_among}
use Rattle.rsp_strings.specs.Cuts.{places_before}

pub items_all : (test : ℕ → Bool) (place : ℕ) (cs : List ℕ) → ((p : ℕ) → place ≤ p → test p ≡ true)
    → items_at test place cs ≡ cs
items_all test place [] holds = refl
items_all test place (c ∷ cs) holds =
    rw (holds place (omega arith)) (ap (λ xs. c ∷ xs)
    (items_all test (suc place) cs (λ p later. holds p (omega arith))))

-- none of the first n, and each behind them
pub items_behind : (test : ℕ → Bool) (n place : ℕ) (cs : List ℕ)
    → ((p : ℕ) → place ≤ p → p < place + n → test p ≡ false)
    → ((p : ℕ) → place + n ≤ p → test p ≡ true) → items_at test place cs ≡ drop n cs
items_behind test zero place cs none each = items_all test place cs (λ p later. each p (omega arith))
items_behind test (suc n) place [] none each = refl
items_behind test (suc n) place (c ∷ cs) none each =
    rw (none place (omega arith) (omega arith))
    (items_behind test n (suc place) cs (λ p later before. none p (omega arith) (omega arith))
    (λ p later. each p (omega arith)))

none_of : (test other : ℕ → Bool) (place : ℕ) (cs : List ℕ) → ((p : ℕ) → place ≤ p → other p ≡ false)
    → items_at (λ p. test p && other p) place cs ≡ []
none_of test other place [] none = refl
none_of test other place (c ∷ cs) none =
    rw (none place (omega arith), fails (test place))
    (none_of test other (suc place) cs (λ p later. none p (omega arith)))
  where
    fails : (b : Bool) → (b && false) ≡ false
    fails true = refl
    fails false = refl

-- a second test that holds of the first n alone
pub items_front : (test other : ℕ → Bool) (n place : ℕ) (cs : List ℕ)
    → ((p : ℕ) → place ≤ p → p < place + n → other p ≡ true)
    → ((p : ℕ) → place + n ≤ p → other p ≡ false)
    → items_at (λ p. test p && other p) place cs ≡ items_at test place (take n cs)
items_front test other zero place cs each none = none_of test other place cs (λ p later. none p (omega arith))
items_front test other (suc n) place [] each none = refl
items_front test other (suc n) place (c ∷ cs) each none =
    rw (each place (omega arith) (omega arith), passes (test place))
    (ap (λ xs. if test place then c ∷ xs else xs)
    (items_front test other n (suc place) cs (λ p later before. each p (omega arith) (omega arith))
    (λ p later. none p (omega arith))))
  where
    passes : (b : Bool) → (b && true) ≡ b
    passes true = refl
    passes false = refl

-- ---- by whole numbers

from_not : (start : ℤ) (p : ℕ) → 1 ≤ p → p < 1 + places_before start → is_from start p ≡ false
from_not (pos n) p first before = grind (arith, nat_tests, ints)
from_not (negsuc n) p first before = absurd (omega arith)

from_is : (start : ℤ) (p : ℕ) → 1 + places_before start ≤ p → is_from start p ≡ true
from_is (pos n) p later = grind (arith, nat_tests, ints)
from_is (negsuc n) p later = grind (arith, nat_tests, ints)

before_is : (end : ℤ) (p : ℕ) → 1 ≤ p → p < 1 + places_before end → int_lt (pos p) end ≡ true
before_is (pos n) p first before = grind (arith, nat_tests, ints)
before_is (negsuc n) p first before = absurd (omega arith)

before_not : (end : ℤ) (p : ℕ) → 1 + places_before end ≤ p → int_lt (pos p) end ≡ false
before_not (pos n) p later = grind (arith, nat_tests, ints)
before_not (negsuc n) p later = grind (arith, nat_tests, ints)

pub from_place : (start : ℤ) (cs : List ℕ) → items_at (is_from start) 1 cs ≡ drop (places_before start) cs
from_place start cs = items_behind (is_from start) (places_before start) 1 cs (from_not start) (from_is start)

pub among_places : (start count : ℤ) (cs : List ℕ)
    → items_at (is_among start count) 1 cs ≡ items_at (is_from start) 1 (take (places_before (start +ℤ count)) cs)
among_places start count cs =
    items_front (is_from start) (λ p. int_lt (pos p) (start +ℤ count)) (places_before (start +ℤ count)) 1 cs
    (before_is (start +ℤ count)) (before_not (start +ℤ count))
