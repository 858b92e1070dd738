-- Copies of a value before a list: how often each value is then in it, and which values are.
use Rattle.std.proofs.Common.{◌≡◌, ℕ, zero, suc, ◌≤◌, ◌<◌, nat_lt, Bool, true, false, true≢false, cond, filter, not, ◌||◌, ◌&&◌, List, [], ◌∷◌, ◌++◌, pos, ◌+ℤ◌, length, refl, sym, ap, subst, ◌∙◌, arith, Decides}
use Rattle.std.specs.Prelude.{◌≤ℤ◌}
use Rattle.std.specs.List.{list_any}
use Rattle.std.proofs.lemmas.Bool.Decides.{nat_tests}
use Rattle.std.proofs.lemmas.Int.{ints}
use Rattle.rsp_folds.specs.Copies.{copies}
use Rattle.rsp_multiset.specs.RowLists.{each_once}
use Rattle.rsp_multiset.specs.Weights.{only, times, IsSameMultiset}
use Rattle.rsp_multiset.proofs.Changing.{times-absent, times-present}
use Rattle.rsp_multiset.proofs.SameLists.{once-times}
use Rattle.rsp_aggregates.specs.Held.{differ}

-- ---- how often

module _ {E : Type 0} (eq : E → E → Bool) where
  pub times-more : (n : ℕ) (x : E) (xs : List E) (q : E) → times eq (copies n x ++ xs) q ≡ only (eq q x) (pos n) +ℤ times eq xs q
  times-more zero x xs q = by (eq q x)
    where
      by : (b : Bool) → times eq xs q ≡ only b (pos 0) +ℤ times eq xs q
      by true = omega (arith, ints)
      by false = omega (arith, ints)
  times-more (suc n) x xs q = by (eq q x) (times-more n x xs q)
    where
      by : (b : Bool) → times eq (copies n x ++ xs) q ≡ only b (pos n) +ℤ times eq xs q
          → only b (pos 1) +ℤ times eq (copies n x ++ xs) q ≡ only b (pos (suc n)) +ℤ times eq xs q
      by true rest = omega (arith, ints, rest)
      by false rest = omega (arith, ints, rest)

  times-within : (xs : List E) (q : E) → times eq xs q ≤ℤ pos (length xs)
  times-within [] q = omega (arith, ints)
  times-within (x ∷ xs) q = by (eq q x) (times-within xs q)
    where
      by : (b : Bool) → times eq xs q ≤ℤ pos (length xs) → (only b (pos 1) +ℤ times eq xs q) ≤ℤ pos (suc (length xs))
      by true rest = omega (arith, ints, rest)
      by false rest = omega (arith, ints, rest)

  pub count-within : (xs : List E) (q : E) (n : ℕ) → pos n ≡ times eq xs q → n ≤ length xs
  count-within xs q n is = let within = times-within xs q in omega (arith, ints, within, is)

  pub count-tells : (xs : List E) (q : E) (n : ℕ) → pos n ≡ times eq xs q → nat_lt 0 n ≡ list_any (eq q) xs
  count-tells xs q n is = by (list_any (eq q) xs) refl
    where
      by : (b : Bool) → list_any (eq q) xs ≡ b → nat_lt 0 n ≡ b
      by true there =
          let some = times-present eq xs q there in
          let more : 0 < n = omega (arith, ints, some, is) in grind (arith, nat_tests)
      by false absent =
          let none = times-absent eq xs q absent in
          let no-more : n ≡ 0 = omega (arith, ints, none, is) in grind (arith, nat_tests)

-- ---- whether

abbrev some : ℕ → Bool
some zero = false
some (suc n) = true

any-more : {E : Type 0} (p : E → Bool) (n : ℕ) (x : E) (xs : List E) → list_any p (copies n x ++ xs) ≡ ((some n && p x) || list_any p xs)
any-more p zero x xs = refl
any-more p (suc n) x xs = by (some n) (p x) (any-more p n x xs)
  where
    by : (more is : Bool) → list_any p (copies n x ++ xs) ≡ ((more && is) || list_any p xs)
        → (is || list_any p (copies n x ++ xs)) ≡ (is || list_any p xs)
    by more true rest = refl
    by true false rest = rest
    by false false rest = rest

same-where : (before after : Bool) → differ before after ≡ false → after ≡ before
same-where true true alike = refl
same-where true false alike = absurd (true≢false alike)
same-where false after alike = alike

none-before : (before more : Bool) → differ before (more || before) ≡ true → before ≡ false
none-before true true differs = absurd (true≢false (sym differs))
none-before true false differs = absurd (true≢false (sym differs))
none-before false more differs = refl

some-after : (before after : Bool) → before ≡ false → differ before after ≡ true → after ≡ true
some-after true after none differs = absurd (true≢false none)
some-after false after none differs = differs

module _ {E : Type 0} {eq : E → E → Bool} (same : (x y : E) → Decides (eq x y) (x ≡ y)) (n : ℕ) (x : E) (xs : List E) where
  abbrev Moves : Bool → Type 0
  Moves b = differ (list_any (eq x) xs) (list_any (eq x) (copies n x ++ xs)) ≡ b

  -- others than the value stay
  any-other : (q : E) → eq q x ≡ false → list_any (eq q) (copies n x ++ xs) ≡ list_any (eq q) xs
  any-other q apart = any-more (eq q) n x xs ∙ ap (λ b. (some n && b) || list_any (eq q) xs) apart ∙ by (some n)
    where
      by : (more : Bool) → ((more && false) || list_any (eq q) xs) ≡ list_any (eq q) xs
      by true = refl
      by false = refl

  absent-before : Moves true → list_any (eq x) xs ≡ false
  absent-before moves =
      none-before (list_any (eq x) xs) (some n && eq x x)
      (ap (differ (list_any (eq x) xs)) (sym (any-more (eq x) n x xs)) ∙ moves)

  there-after : Moves true → list_any (eq x) (copies n x ++ xs) ≡ true
  there-after moves = some-after (list_any (eq x) xs) (list_any (eq x) (copies n x ++ xs)) (absent-before moves) moves

  pub any-still : Moves false → (q : E) → list_any (eq q) (copies n x ++ xs) ≡ list_any (eq q) xs
  any-still stays q = by (eq q x) refl
    where
      by : (b : Bool) → eq q x ≡ b → list_any (eq q) (copies n x ++ xs) ≡ list_any (eq q) xs
      by true is =
          subst (λ y. list_any (eq y) (copies n x ++ xs) ≡ list_any (eq y) xs) (sym ((same q x).0 is))
          (same-where (list_any (eq x) xs) (list_any (eq x) (copies n x ++ xs)) stays)
      by false apart = any-other q apart

  pub any-come : Moves true → (q : E) → list_any (eq q) (copies n x ++ xs) ≡ (eq q x || list_any (eq q) xs)
  any-come moves q = by (eq q x) refl
    where
      by : (b : Bool) → eq q x ≡ b → list_any (eq q) (copies n x ++ xs) ≡ (b || list_any (eq q) xs)
      by true is = subst (λ y. list_any (eq y) (copies n x ++ xs) ≡ true) (sym ((same q x).0 is)) (there-after moves)
      by false apart = any-other q apart

  pub any-gone : Moves true → (q : E) → list_any (eq q) xs ≡ (not (eq q x) && list_any (eq q) (copies n x ++ xs))
  any-gone moves q = by (eq q x) refl
    where
      by : (b : Bool) → eq q x ≡ b → list_any (eq q) xs ≡ (not b && list_any (eq q) (copies n x ++ xs))
      by true is = subst (λ y. list_any (eq y) xs ≡ false) (sym ((same q x).0 is)) (absent-before moves)
      by false apart = sym (any-other q apart)

  -- ---- each value once

  pub once-still : Moves false → IsSameMultiset eq (each_once eq (copies n x ++ xs)) (each_once eq xs)
  once-still stays q =
      once-times same (copies n x ++ xs) q
      ∙ (ap (λ b. only b (pos 1)) (any-still stays q) ∙ sym (once-times same xs q))

  pub once-moved : Moves true → IsSameMultiset eq (each_once eq (copies n x ++ xs)) (x ∷ each_once eq xs)
  once-moved moves q = by (eq q x) refl
    where
      by : (b : Bool) → eq q x ≡ b → times eq (each_once eq (copies n x ++ xs)) q ≡ only b (pos 1) +ℤ times eq (each_once eq xs) q
      by true is =
          let all = once-times same (copies n x ++ xs) q ∙ ap (λ b. only b (pos 1))
          (subst (λ y. list_any (eq y) (copies n x ++ xs) ≡ true) (sym ((same q x).0 is)) (there-after moves)) in
          let none = once-times same xs q ∙ ap (λ b. only b (pos 1))
          (subst (λ y. list_any (eq y) xs ≡ false) (sym ((same q x).0 is)) (absent-before moves)) in
          omega (arith, ints, all, none)
      by false apart =
          let all = once-times same (copies n x ++ xs) q ∙ (ap (λ b. only b (pos 1)) (any-other q apart) ∙ sym (once-times same xs q)) in
          omega (arith, ints, all)

  pub some-moved : Moves true → 1 ≤ n
  some-moved moves = by n (any-more (eq x) n x xs ∙ ap (λ b. (some n && eq x x) || b) (absent-before moves))
    where
      by : (m : ℕ) → list_any (eq x) (copies n x ++ xs) ≡ ((some m && eq x x) || false) → 1 ≤ m
      by zero is = absurd (true≢false (sym (there-after moves) ∙ is))
      by (suc m) is = omega arith

-- ---- no more once than all

filter-within : {E : Type 0} (p : E → Bool) (xs : List E) → length (filter p xs) ≤ length xs
filter-within p [] = omega arith
filter-within p (x ∷ xs) = by (p x) (filter-within p xs)
  where
    by : (b : Bool) → length (filter p xs) ≤ length xs → length (cond b (x ∷ filter p xs) (filter p xs)) ≤ suc (length xs)
    by true rest = omega (arith, rest)
    by false rest = omega (arith, rest)

pub once-within : {E : Type 0} (eq : E → E → Bool) (xs : List E) → length (each_once eq xs) ≤ length xs
once-within eq [] = omega arith
once-within eq (x ∷ xs) =
    let rest = once-within eq xs in
    let kept = filter-within (λ y. not (eq x y)) (each_once eq xs) in
    omega (arith, rest, kept)
