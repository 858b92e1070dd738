-- Sums over lists: of a list put together, of a sum, and in either order.
use Rattle.std.proofs.Common.{◌≡◌, Bool, true, false, cond, List, [], ◌∷◌, ◌++◌, ℤ, pos, ◌+ℤ◌, ◌*ℤ◌, neg_ℤ, Option, Some, None, length, map, filter, refl, sym, ap, ◌∙◌, arith}
use Rattle.std.specs.List.{flat_map, filter_map, cons_option}
use Rattle.std.specs.Option.{option_to_list}
use Rattle.std.proofs.lemmas.Int.{ints}
use Rattle.std.proofs.Math.IntN.{zero-*ℤ, *ℤ-zero}
use Rattle.rsp_multiset.specs.Weights.{sum_z, only}
use Rattle.rsp_multiset.proofs.Whole.{+ℤ-*ℤ, *ℤ-+ℤ}

module _ {X : Type 0} where
  pub sum_z-append : (f : X → ℤ) (xs ys : List X) → sum_z f (xs ++ ys) ≡ sum_z f xs +ℤ sum_z f ys
  sum_z-append f [] ys = omega (arith, ints)
  sum_z-append f (x ∷ xs) ys = let h = sum_z-append f xs ys in omega (arith, ints)

  pub sum_z-alike : (f g : X → ℤ) → ((x : X) → f x ≡ g x) → (xs : List X) → sum_z f xs ≡ sum_z g xs
  sum_z-alike f g same [] = refl
  sum_z-alike f g same (x ∷ xs) = (λ i. same x i +ℤ sum_z-alike f g same xs i)

  pub sum_z-none : (f : X → ℤ) → ((x : X) → f x ≡ pos 0) → (xs : List X) → sum_z f xs ≡ pos 0
  sum_z-none f none [] = refl
  sum_z-none f none (x ∷ xs) = (λ i. none x i +ℤ sum_z-none f none xs i)

  pub sum_z-plus : (f g : X → ℤ) (xs : List X) → sum_z (λ x. f x +ℤ g x) xs ≡ sum_z f xs +ℤ sum_z g xs
  sum_z-plus f g [] = refl
  sum_z-plus f g (x ∷ xs) = let h = sum_z-plus f g xs in omega (arith, ints)

  pub sum_z-neg : (f : X → ℤ) (xs : List X) → sum_z (λ x. neg_ℤ (f x)) xs ≡ neg_ℤ (sum_z f xs)
  sum_z-neg f [] = refl
  sum_z-neg f (x ∷ xs) = let h = sum_z-neg f xs in omega (arith, ints)

  pub sum_z-scaled : (n : ℤ) (f : X → ℤ) (xs : List X) → sum_z (λ x. n *ℤ f x) xs ≡ n *ℤ sum_z f xs
  sum_z-scaled n f [] = sym (*ℤ-zero n)
  sum_z-scaled n f (x ∷ xs) = ap (λ s. n *ℤ f x +ℤ s) (sum_z-scaled n f xs) ∙ sym (*ℤ-+ℤ n (f x) (sum_z f xs))

  pub sum_z-by : (f : X → ℤ) (n : ℤ) (xs : List X) → sum_z (λ x. f x *ℤ n) xs ≡ sum_z f xs *ℤ n
  sum_z-by f n [] = sym (zero-*ℤ n)
  sum_z-by f n (x ∷ xs) = ap (λ s. f x *ℤ n +ℤ s) (sum_z-by f n xs) ∙ sym (+ℤ-*ℤ (f x) (sum_z f xs) n)

  pub sum_z-filter : (f : X → ℤ) (test : X → Bool) (xs : List X) → sum_z f (filter test xs) ≡ sum_z (λ x. only (test x) (f x)) xs
  sum_z-filter f test [] = refl
  sum_z-filter f test (x ∷ xs) = by (test x) (sum_z-filter f test xs)
    where
      by : (b : Bool) → sum_z f (filter test xs) ≡ sum_z (λ x. only (test x) (f x)) xs → sum_z f (cond b (x ∷ filter test xs) (filter test xs)) ≡ only b (f x) +ℤ sum_z (λ x. only (test x) (f x)) xs
      by true h = ap (λ s. f x +ℤ s) h
      by false h = omega (arith, ints)

  pub length-sum : (xs : List X) → sum_z (λ _. pos 1) xs ≡ pos (length xs)
  length-sum [] = refl
  length-sum (x ∷ xs) = let h = length-sum xs in omega (arith, ints)

module _ {X Y : Type 0} where
  pub sum_z-map : (f : Y → ℤ) (g : X → Y) (xs : List X) → sum_z f (map g xs) ≡ sum_z (λ x. f (g x)) xs
  sum_z-map f g [] = refl
  sum_z-map f g (x ∷ xs) = ap (λ s. f (g x) +ℤ s) (sum_z-map f g xs)

  pub sum_z-flat_map : (f : Y → ℤ) (g : X → List Y) (xs : List X) → sum_z f (flat_map g xs) ≡ sum_z (λ x. sum_z f (g x)) xs
  sum_z-flat_map f g [] = refl
  sum_z-flat_map f g (x ∷ xs) = sum_z-append f (g x) (flat_map g xs) ∙ ap (λ s. sum_z f (g x) +ℤ s) (sum_z-flat_map f g xs)

  pub sum_z-filter_map : (f : Y → ℤ) (g : X → Option Y) (xs : List X) → sum_z f (filter_map g xs) ≡ sum_z (λ x. sum_z f (option_to_list (g x))) xs
  sum_z-filter_map f g [] = refl
  sum_z-filter_map f g (x ∷ xs) = by (g x) ∙ ap (λ s. sum_z f (option_to_list (g x)) +ℤ s) (sum_z-filter_map f g xs)
    where
      by : (o : Option Y) → sum_z f (cons_option o (filter_map g xs)) ≡ sum_z f (option_to_list o) +ℤ sum_z f (filter_map g xs)
      by None = omega (arith, ints)
      by (Some y) = omega (arith, ints)

  pub sum_z-swap : (f : X → Y → ℤ) (xs : List X) (ys : List Y) → sum_z (λ x. sum_z (λ y. f x y) ys) xs ≡ sum_z (λ y. sum_z (λ x. f x y) xs) ys
  sum_z-swap f [] ys = sym (sum_z-none (λ _. pos 0) (λ _. refl) ys)
  sum_z-swap f (x ∷ xs) ys = ap (λ s. sum_z (f x) ys +ℤ s) (sum_z-swap f xs ys) ∙ sym (sum_z-plus (f x) (λ y. sum_z (λ x. f x y) xs) ys)
