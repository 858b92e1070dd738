-- Entries with f of each count, and bags.
use Rattle.std.proofs.Common.{◌≡◌, ◌≢◌, ℕ, zero, suc, Bool, true, false, List, [], ◌∷◌, ◌++◌, ℤ, pos, negsuc, ◌+ℤ◌, ◌≤ℤ◌, ◌<ℤ◌, length, drop, ◌≤◌, map, refl, sym, ap, ◌∙◌, true≢false, arith, Decides}
use Rattle.std.specs.Cmp.{IsEquivalence}
use Rattle.std.specs.List.{IsDistinct, AllByRecursion}
use Rattle.std.specs.Map.{keys_of}
use Rattle.std.proofs.lemmas.Int.{ints}
use Rattle.std.proofs.lemmas.List.{drop_all}
use Rattle.std.proofs.lemmas.List.Elements.{All-from_recursion, recursion_from_All}
use Rattle.std.proofs.lemmas.Map.Entries.{none_past_head}
use Rattle.rsp_multiset.specs.Weights.{only, weight, cardinality, above, below, AreChanges, AreCounts}
use Rattle.rsp_multiset.proofs.Held.{weight-none, weight-append}
use Rattle.rsp_multiset.proofs.Sums.{sum_z-append}
use Rattle.rsp_multiset.proofs.Linear.{cardinality-same}

abbrev pub part : {E : Type 0} → (ℤ → ℤ) → List (E × ℤ) → List (E × ℤ)
part {E} f es = map {B = E × ℤ} (λ e. (e.0, f e.1)) es

pub above_or_below : (n : ℤ) → above n +ℤ below n ≡ n
above_or_below (pos n) = omega (arith, ints)
above_or_below (negsuc n) = omega (arith, ints)

-- what a test of the sign that failed says
pub not_below : (n : ℤ) (b : Bool) → (b ≡ true → n <ℤ pos 0) × (n <ℤ pos 0 → b ≡ true) → b ≡ false → pos 0 ≤ℤ n
not_below (pos n) b h k = omega (arith, ints)
not_below (negsuc n) b h k =
    let negative : negsuc n <ℤ pos 0 = omega (arith, ints) in
    absurd (true≢false (sym (h.1 negative) ∙ k))

below-le : (n : ℤ) → below n ≤ℤ pos 0
below-le (pos n) = omega (arith, ints)
below-le (negsuc n) = omega (arith, ints)

pub above-nonneg : (n : ℤ) → pos 0 ≤ℤ n → above n ≡ n
above-nonneg (pos n) h = refl
above-nonneg (negsuc n) h = absurd (omega (arith, ints))

pub below-nonneg : (n : ℤ) → pos 0 ≤ℤ n → below n ≡ pos 0
below-nonneg (pos n) h = refl
below-nonneg (negsuc n) h = absurd (omega (arith, ints))

pub above-negative : (n : ℤ) → n <ℤ pos 0 → above n ≡ pos 0
above-negative (pos n) h = absurd (omega (arith, ints))
above-negative (negsuc n) h = refl

pub below-negative : (n : ℤ) → n <ℤ pos 0 → below n ≡ n
below-negative (pos n) h = absurd (omega (arith, ints))
below-negative (negsuc n) h = refl

only-le : (b : Bool) (n : ℤ) → n ≤ℤ pos 0 → only b n ≤ℤ pos 0
only-le true n h = h
only-le false n h = omega (arith, ints)

only-ge : (b : Bool) (n : ℤ) → pos 0 <ℤ n → pos 0 ≤ℤ only b n
only-ge true n h = omega (arith, ints)
only-ge false n h = omega (arith, ints)

-- what is to be taken out is there: at first, at an entry, and past it
pub enough : (held n : ℤ) → pos 0 ≤ℤ (held +ℤ n) → below n <ℤ pos 0 → pos 0 ≤ℤ (held +ℤ below n)
enough held (pos n) h k = absurd (omega (arith, ints))
enough held (negsuc n) h k = h

pub enough-here : (n : ℤ) (b : Bool) (left rest held : ℤ) → b ≡ true → left ≡ only b (below n) +ℤ rest → rest ≤ℤ pos 0 → (left <ℤ pos 0 → pos 0 ≤ℤ (held +ℤ left)) → n <ℤ pos 0 → pos 0 ≤ℤ (held +ℤ n)
enough-here (pos n) b left rest held own split le h negative = absurd (omega (arith, ints))
enough-here (negsuc n) b left rest held own split le h negative =
    let whole = ap (λ b. only b (negsuc n)) own in
    let less : left <ℤ pos 0 = omega (arith, ints) in
    let there = h less in
    omega (arith, ints)

pub enough-after : (n : ℤ) (b : Bool) (left rest held after : ℤ) → left ≡ only b (below n) +ℤ rest → after ≡ held +ℤ only b (below n) → (left <ℤ pos 0 → pos 0 ≤ℤ (held +ℤ left)) → rest <ℤ pos 0 → pos 0 ≤ℤ (after +ℤ rest)
enough-after n b left rest held after split step h negative =
    let le = only-le b (below n) (below-le n) in
    let less : left <ℤ pos 0 = omega (arith, ints) in
    let there = h less in
    omega (arith, ints)

module _ {E : Type 0} (eq : E → E → Bool) where
  pub below-part : (es : List (E × ℤ)) (q : E) → weight eq (part below es) q ≤ℤ pos 0
  below-part [] q = omega (arith, ints)
  below-part (e ∷ es) q = let h = below-part es q in let k = only-le (eq q e.0) (below e.1) (below-le e.1) in omega (arith, ints)

  pub part-rest : (f : ℤ → ℤ) (es rest : List (E × ℤ)) (x : E) (n : ℤ) → es ≡ (x, n) ∷ rest → (q : E) → weight eq (part f es) q ≡ only (eq q x) (f n) +ℤ weight eq (part f rest) q
  part-rest f es rest x n split q = ap (λ l. weight eq (part f l) q) split

  pub part-end : (f : ℤ → ℤ) (es : List (E × ℤ)) (i : ℕ) → length es ≤ i → (q : E) → weight eq (part f (drop i es)) q ≡ pos 0
  part-end f es i past q = ap (λ l. weight eq (part f l) q) (drop_all i es past)

  counts-ge : (es : List (E × ℤ)) → AllByRecursion (λ (e : E × ℤ). pos 0 <ℤ e.1) es → (q : E) → pos 0 ≤ℤ weight eq es q
  counts-ge [] h q = omega (arith, ints)
  counts-ge (e ∷ es) h q = let k = counts-ge es h.1 q in let l = only-ge (eq q e.0) e.1 h.0 in omega (arith, ints)

  -- a bag holds nothing less than not at all
  pub weight-ge : (es : List (E × ℤ)) → AreCounts eq es → (q : E) → pos 0 ≤ℤ weight eq es q
  weight-ge es c = counts-ge es (recursion_from_All (λ (e : E × ℤ). pos 0 <ℤ e.1) es c.counted)

  only-le_all : (b : Bool) (n : ℤ) → pos 0 <ℤ n → only b n ≤ℤ n
  only-le_all true n h = omega (arith, ints)
  only-le_all false n h = omega (arith, ints)

  counts-le : (es : List (E × ℤ)) → AllByRecursion (λ (e : E × ℤ). pos 0 <ℤ e.1) es → (q : E) → weight eq es q ≤ℤ cardinality es
  counts-le [] h q = omega (arith, ints)
  counts-le (e ∷ es) h q = let k = counts-le es h.1 q in let l = only-le_all (eq q e.0) e.1 h.0 in omega (arith, ints)

  -- a bag holds no value oftener than it has rows
  pub weight-le_cardinality : (es : List (E × ℤ)) → AreCounts eq es → (q : E) → weight eq es q ≤ℤ cardinality es
  weight-le_cardinality es c = counts-le es (recursion_from_All (λ (e : E × ℤ). pos 0 <ℤ e.1) es c.counted)

module _ {E : Type 0} {eq : E → E → Bool} (laws : IsEquivalence eq) where
  pub weight-part : (f : ℤ → ℤ) → f (pos 0) ≡ pos 0 → (es : List (E × ℤ)) → IsDistinct eq (keys_of es) → (q : E) → weight eq (part f es) q ≡ f (weight eq es q)
  unfolding IsDistinct
  weight-part f none [] d q = sym none
  weight-part f none (e ∷ es) d q =
      by (eq q e.0) (weight-part f none es d.1 q) (λ h. weight-none eq q es (none_past_head laws q e es d h)) refl
    where
      by : (b : Bool) → weight eq (part f es) q ≡ f (weight eq es q) → (eq q e.0 ≡ true → weight eq es q ≡ pos 0) → eq q e.0 ≡ b → only b (f e.1) +ℤ weight eq (part f es) q ≡ f (only b e.1 +ℤ weight eq es q)
      by true rest z h =
          let w = z h in
          let r = rest ∙ ap f w ∙ none in
          let k : e.1 +ℤ weight eq es q ≡ e.1 = omega (arith, ints) in
          let s : f e.1 +ℤ weight eq (part f es) q ≡ f e.1 = omega (arith, ints) in
          s ∙ ap f (sym k)
      by false rest z h =
          let k : pos 0 +ℤ weight eq es q ≡ weight eq es q = omega (arith, ints) in
          let s : pos 0 +ℤ weight eq (part f es) q ≡ weight eq (part f es) q = omega (arith, ints) in
          s ∙ rest ∙ ap f (sym k)

  counts-above : (es : List (E × ℤ)) → IsDistinct eq (keys_of es) → AllByRecursion (λ (e : E × ℤ). e.1 ≢ pos 0) es → ((q : E) → pos 0 ≤ℤ weight eq es q) → AllByRecursion (λ (e : E × ℤ). pos 0 <ℤ e.1) es
  unfolding IsDistinct
  counts-above [] d h w = tt
  counts-above (e ∷ es) d h w =
      (first, counts-above es d.1 h.1 (λ q. by q (eq q e.0) (w q) (λ k. weight-none eq q es (none_past_head laws q e es d k)) refl))
    where
      not_zero : (n : ℤ) → n ≢ pos 0 → pos 0 ≤ℤ n → pos 0 <ℤ n
      not_zero (pos zero) k l = absurd (k refl)
      not_zero (pos (suc n)) k l = omega (arith, ints)
      not_zero (negsuc n) k l = absurd (omega (arith, ints))

      first : pos 0 <ℤ e.1
      first =
          let k = w e.0 in
          let own = ap (λ b. only b e.1) (laws.refl e.0) in
          let none = weight-none eq e.0 es (none_past_head laws e.0 e es d (laws.refl e.0)) in
          not_zero e.1 h.0 (omega (arith, ints))

      by : (q : E) (b : Bool) → pos 0 ≤ℤ (only (eq q e.0) e.1 +ℤ weight eq es q) → (eq q e.0 ≡ true → weight eq es q ≡ pos 0) → eq q e.0 ≡ b → pos 0 ≤ℤ weight eq es q
      by q true k z l = let n = z l in omega (arith, ints)
      by q false k z l = let n = ap (λ b. only b e.1) l in omega (arith, ints)

  -- a change that holds nothing below 0 is a bag
  pub counts-from_weights : (es : List (E × ℤ)) → AreChanges eq es → ((q : E) → pos 0 ≤ℤ weight eq es q) → AreCounts eq es
  counts-from_weights es c w =
      record {
        distinct = c.distinct;
        counted = All-from_recursion (λ (e : E × ℤ). pos 0 <ℤ e.1) es (counts-above es c.distinct (recursion_from_All (λ (e : E × ℤ). e.1 ≢ pos 0) es c.counted) w);
      }

module _ {E : Type 0} {eq : E → E → Bool} (same : (x y : E) → Decides (eq x y) (x ≡ y)) where
  -- one entry altered by so much
  pub altered-ge : (es ds : List (E × ℤ)) (x : E) (n : ℤ) → AreCounts eq es → (n <ℤ pos 0 → pos 0 ≤ℤ (weight eq es x +ℤ n)) → ((q : E) → weight eq ds q ≡ weight eq es q +ℤ only (eq q x) n)
      → (q : E) → pos 0 ≤ℤ weight eq ds q
  altered-ge es ds x n c enough altered q = by (eq q x) refl n (weight-ge eq es c q) enough (altered q)
    where
      by : (b : Bool) → eq q x ≡ b → (m : ℤ) → pos 0 ≤ℤ weight eq es q → (m <ℤ pos 0 → pos 0 ≤ℤ (weight eq es x +ℤ m)) → weight eq ds q ≡ weight eq es q +ℤ only (eq q x) m → pos 0 ≤ℤ weight eq ds q
      by true h (pos m) ge k l = let o = ap (λ b. only b (pos m)) h in omega (arith, ints)
      by true h (negsuc m) ge k l =
          let o = ap (λ b. only b (negsuc m)) h in
          let e = ap (λ z. weight eq es z) ((same q x).0 h) in
          let negative : negsuc m <ℤ pos 0 = omega (arith, ints) in
          let p = k negative in
          omega (arith, ints)
      by false h m ge k l = let o = ap (λ b. only b m) h in omega (arith, ints)

  pub cardinality-altered : (es ds : List (E × ℤ)) (x : E) (n : ℤ) → ((q : E) → weight eq ds q ≡ weight eq es q +ℤ only (eq q x) n) → cardinality ds ≡ cardinality es +ℤ n
  cardinality-altered es ds x n altered =
      cardinality-same same ds (es ++ (x, n) ∷ []) (λ q. altered q ∙ (let h = weight-append eq es ((x, n) ∷ []) q in omega (arith, ints)))
      ∙ (let h = sum_z-append (λ (e : E × ℤ). e.1) es ((x, n) ∷ []) in omega (arith, ints))
