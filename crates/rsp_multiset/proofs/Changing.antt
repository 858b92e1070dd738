-- How often a list holds a value, and lists that change.
use Rattle.std.proofs.Common.{◌≡◌, Bool, true, false, ◌||◌, List, [], ◌∷◌, ◌++◌, ℤ, pos, ◌+ℤ◌, ◌≤ℤ◌, ◌<ℤ◌, refl, sym, true≢false, arith}
use Rattle.std.specs.List.{list_any}
use Rattle.std.proofs.lemmas.Int.{ints}
use Rattle.rsp_multiset.specs.Weights.{only, weight, times, negation, IsChanged, IsSameMultiset, Holds}
use Rattle.rsp_multiset.proofs.Held.{weight-append, weight-negated}
use Rattle.rsp_multiset.proofs.Linear.{entries_of, weight-entries_of}
use Rattle.rsp_multiset.proofs.Sums.{sum_z-append}

module _ {E : Type 0} (eq : E → E → Bool) where
  pub times-append : (xs ys : List E) (q : E) → times eq (xs ++ ys) q ≡ times eq xs q +ℤ times eq ys q
  times-append xs ys q = sum_z-append (λ x. only (eq q x) (pos 1)) xs ys

  one_or_none : (b : Bool) → pos 0 ≤ℤ only b (pos 1)
  one_or_none true = omega (arith, ints)
  one_or_none false = omega (arith, ints)

  pub times-ge : (xs : List E) (q : E) → pos 0 ≤ℤ times eq xs q
  times-ge [] q = omega (arith, ints)
  times-ge (x ∷ xs) q = let h = times-ge xs q in let k = one_or_none (eq q x) in omega (arith, ints)

  -- a value that no item is equal to isn't held, and else it is
  pub times-absent : (xs : List E) (q : E) → list_any (eq q) xs ≡ false → times eq xs q ≡ pos 0
  times-absent [] q h = refl
  times-absent (x ∷ xs) q h = by (eq q x) (times-absent xs q) h
    where
      by : (b : Bool) → (list_any (eq q) xs ≡ false → times eq xs q ≡ pos 0) → (b || list_any (eq q) xs) ≡ false → only b (pos 1) +ℤ times eq xs q ≡ pos 0
      by true rest k = absurd (true≢false k)
      by false rest k = let z = rest k in omega (arith, ints)

  pub times-present : (xs : List E) (q : E) → list_any (eq q) xs ≡ true → pos 0 <ℤ times eq xs q
  times-present [] q h = absurd (true≢false (sym h))
  times-present (x ∷ xs) q h = by (eq q x) (times-present xs q) (times-ge xs q) h
    where
      by : (b : Bool) → (list_any (eq q) xs ≡ true → pos 0 <ℤ times eq xs q) → pos 0 ≤ℤ times eq xs q → (b || list_any (eq q) xs) ≡ true → pos 0 <ℤ (only b (pos 1) +ℤ times eq xs q)
      by true rest ge k = omega (arith, ints)
      by false rest ge k = let z = rest k in omega (arith, ints)

  pub changed-nothing : (xs : List E) → IsChanged eq xs [] xs
  changed-nothing xs q = let t = times-ge xs q in omega (arith, ints)

  pub changed-twice : (xs ys zs : List E) (es ds fs : List (E × ℤ)) → IsChanged eq xs es ys → IsChanged eq ys ds zs → ((q : E) → weight eq fs q ≡ weight eq es q +ℤ weight eq ds q) → IsChanged eq xs fs zs
  changed-twice xs ys zs es ds fs h k sum q = let a = h q in let b = k q in let c = sum q in omega (arith, ints)

  pub changed-alike : (xs xs' ys ys' : List E) (es ds : List (E × ℤ)) → IsSameMultiset eq xs xs' → IsSameMultiset eq ys ys' → ((q : E) → weight eq es q ≡ weight eq ds q) → IsChanged eq xs es ys → IsChanged eq xs' ds ys'
  changed-alike xs xs' ys ys' es ds h k w change q = let a = h q in let b = k q in let c = w q in let d = change q in omega (arith, ints)

  -- one list taken out and another put in
  pub changed-whole : (xs ys : List E) → IsChanged eq xs (negation (entries_of xs) ++ entries_of ys) ys
  changed-whole xs ys q =
      let a = weight-append eq (negation (entries_of xs)) (entries_of ys) q in
      let b = weight-negated eq (entries_of xs) q in
      let c = weight-entries_of eq xs q in
      let d = weight-entries_of eq ys q in
      omega (arith, ints)

  pub holds-changed : (es ds fs : List (E × ℤ)) (xs ys : List E) → Holds eq es xs → IsChanged eq xs ds ys → ((q : E) → weight eq fs q ≡ weight eq es q +ℤ weight eq ds q) → Holds eq fs ys
  holds-changed es ds fs xs ys h change sum q = let a = h q in let b = change q in let c = sum q in omega (arith, ints)

  pub holds-joined : (es ds fs : List (E × ℤ)) (xs ys : List E) → Holds eq es xs → Holds eq ds ys → ((q : E) → weight eq fs q ≡ weight eq es q +ℤ weight eq ds q) → Holds eq fs (xs ++ ys)
  holds-joined es ds fs xs ys h k sum q = let a = h q in let b = k q in let c = sum q in let d = times-append xs ys q in omega (arith, ints)
