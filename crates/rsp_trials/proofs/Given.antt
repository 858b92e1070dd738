-- What an input holds, as a list: a change that may come leads from the one list to the other, and an operator may be given it.
use Rattle.std.proofs.Common.{◌≡◌, ◌≢◌, ℕ, zero, suc, Bool, true, false, List, [], ◌∷◌, ℤ, pos, negsuc, ◌+ℤ◌, ◌*ℤ◌, neg_ℤ, ◌≤ℤ◌, ◌<ℤ◌, ◌==◌, rules, Option, None, Some, length, refl, sym, ap, subst, ◌∙◌, arith, Decides}
use Rattle.std.specs.Prelude.{IfSome}
use Rattle.std.specs.Cmp.{IsEquivalence, decided}
use Rattle.std.specs.List.{AllByRecursion, IsDistinct}
use Rattle.std.specs.Map.{keys_of}
use Rattle.std.proofs.lemmas.Int.{ints}
use Rattle.std.proofs.lemmas.List.Elements.{recursion_from_All}
use Rattle.std.proofs.lemmas.Map.Entries.{none_past_head}
use Rattle.rsp_multiset.specs.Rows.{Cells, row_eq}
use Rattle.rsp_multiset.specs.RowSame.{row_decides}
use Rattle.rsp_multiset.specs.Shown.{shown_row, weight_shown, IsKnown}
use Rattle.rsp_multiset.specs.Weights.{only, weight, times, AreCounts}
use Rattle.rsp_multiset.proofs.Held.{weight-none}
use Rattle.rsp_multiset.proofs.Shown.{times-only}
use Rattle.rsp_multiset.proofs.Signs.{weight-ge}
use Rattle.rsp_terms.specs.declared.term.Term.{Term}
use Rattle.rsp_terms.specs.Same.{term_eq, term_same}
use Rattle.rsp_operators.specs.Laws.{Fits, AllFit, ChangesFit, Leads, MayBeGiven, MayBothBeGiven}
use Rattle.rsp_trials.specs.Held.{Counted, copies, copies_of, rows_of, AreFit, IsGiven, IsSum, StandsForRows, StandsForBoth}

same : (x y : Cells Term) → Decides (row_eq term_eq x y) (x ≡ y)
same = row_decides term_same

laws : IsEquivalence (row_eq term_eq)
laws = decided (row_eq term_eq) same

-- ---- rows as often as their counts say

times-copies : (n : ℕ) (x q : Cells Term) (xs : List (Cells Term)) → times (row_eq term_eq) (copies n x xs) q ≡ only (row_eq term_eq q x) (pos n) +ℤ times (row_eq term_eq) xs q
times-copies zero x q xs = by (row_eq term_eq q x)
  where
    by : (b : Bool) → times (row_eq term_eq) xs q ≡ only b (pos 0) +ℤ times (row_eq term_eq) xs q
    by true = omega (arith, ints)
    by false = omega (arith, ints)
times-copies (suc n) x q xs = by (row_eq term_eq q x) (times-copies n x q xs)
  where
    by : (b : Bool) → times (row_eq term_eq) (copies n x xs) q ≡ only b (pos n) +ℤ times (row_eq term_eq) xs q → only b (pos 1) +ℤ times (row_eq term_eq) (copies n x xs) q ≡ only b (pos (suc n)) +ℤ times (row_eq term_eq) xs q
    by true h = omega (arith, ints)
    by false h = omega (arith, ints)

times-copies_of : (n : ℤ) → pos 0 <ℤ n → (x q : Cells Term) (xs : List (Cells Term)) → times (row_eq term_eq) (copies_of n x xs) q ≡ only (row_eq term_eq q x) n +ℤ times (row_eq term_eq) xs q
times-copies_of (pos n) some x q xs = times-copies n x q xs
times-copies_of (negsuc n) some x q xs = absurd (omega (arith, ints, some))

times-rows : (es : Counted) → AllByRecursion (λ (e : Cells Term × ℤ). pos 0 <ℤ e.1) es → (q : Cells Term) → times (row_eq term_eq) (rows_of es) q ≡ weight (row_eq term_eq) es q
times-rows [] counted q = refl
times-rows (e ∷ es) counted q = times-copies_of e.1 counted.0 e.0 q (rows_of es) ∙ ap (λ n. only (row_eq term_eq q e.0) e.1 +ℤ n) (times-rows es counted.1 q)

counts-positive : (es : Counted) → AreCounts (row_eq term_eq) es → AllByRecursion (λ (e : Cells Term × ℤ). pos 0 <ℤ e.1) es
counts-positive es counts = recursion_from_All (λ (e : Cells Term × ℤ). pos 0 <ℤ e.1) es counts.counted

-- ---- what an entry has, each row has that is weighed, and the other way round

weighed-has : (P : Cells Term → Type 0) (es : Counted) → AllByRecursion (λ (e : Cells Term × ℤ). P e.0) es → (q : Cells Term) → weight (row_eq term_eq) es q ≢ pos 0 → P q
weighed-has P [] all q some = absurd (some refl)
weighed-has P (e ∷ es) all q some = by (row_eq term_eq q e.0) refl some (weighed-has P es all.1 q)
  where
    by : (b : Bool) → row_eq term_eq q e.0 ≡ b → only b e.1 +ℤ weight (row_eq term_eq) es q ≢ pos 0 → (weight (row_eq term_eq) es q ≢ pos 0 → P q) → P q
    by true is some rest = subst P (sym ((same q e.0).0 is)) all.0
    by false is some rest = rest (λ none. some (omega (arith, ints, none)))

entries-have : (P : Cells Term → Type 0) (es : Counted) → IsDistinct (row_eq term_eq) (keys_of es) → AllByRecursion (λ (e : Cells Term × ℤ). pos 0 <ℤ e.1) es → ((x : Cells Term) → weight (row_eq term_eq) es x ≢ pos 0 → P x) → AllByRecursion (λ (e : Cells Term × ℤ). P e.0) es
unfolding IsDistinct
entries-have P [] d counted have = tt
entries-have P (e ∷ es) d counted have =
    (have e.0 (λ none. first none), entries-have P es d.1 counted.1 (λ x some. have x (later x some (row_eq term_eq x e.0) refl)))
  where
    first : only (row_eq term_eq e.0 e.0) e.1 +ℤ weight (row_eq term_eq) es e.0 ≡ pos 0 → ⊥
    first none =
        let more : pos 0 <ℤ e.1 = counted.0 in
        let own = ap (λ b. only b e.1) (laws.refl e.0) in
        let others = weight-none (row_eq term_eq) e.0 es (none_past_head laws e.0 e es d (laws.refl e.0)) in
        omega (arith, ints, own, others, none, more)

    later : (x : Cells Term) → weight (row_eq term_eq) es x ≢ pos 0 → (b : Bool) → row_eq term_eq x e.0 ≡ b → only (row_eq term_eq x e.0) e.1 +ℤ weight (row_eq term_eq) es x ≢ pos 0
    later x some true is none = some (weight-none (row_eq term_eq) x es (none_past_head laws x e es d is))
    later x some false is none = some (let own = ap (λ b. only b e.1) is in omega (arith, ints, own, none))

-- ---- rows that fit

copies-fit : (width : ℕ) (key : List ℕ) (n : ℕ) (x : Cells Term) (xs : List (Cells Term)) → Fits width key x → AllFit width key xs → AllFit width key (copies n x xs)
copies-fit width key zero x xs fit all = all
copies-fit width key (suc n) x xs fit all = (fit, copies-fit width key n x xs fit all)

copies_of-fit : (width : ℕ) (key : List ℕ) (n : ℤ) (x : Cells Term) (xs : List (Cells Term)) → Fits width key x → AllFit width key xs → AllFit width key (copies_of n x xs)
copies_of-fit width key (pos n) x xs fit all = copies-fit width key n x xs fit all
copies_of-fit width key (negsuc n) x xs fit all = all

entries-fit : (width : ℕ) (key : List ℕ) (es : Counted) → AllByRecursion (λ (e : Cells Term × ℤ). Fits width key e.0) es → AllFit width key (rows_of es)
entries-fit width key [] fit = tt
entries-fit width key (e ∷ es) fit = copies_of-fit width key e.1 e.0 (rows_of es) fit.0 (entries-fit width key es fit.1)

all-fit : (width : ℕ) (key : List ℕ) (es : Counted) → AreCounts (row_eq term_eq) es → AreFit width key es → AllFit width key (rows_of es)
all-fit width key es counts fit = entries-fit width key es (entries-have (Fits width key) es counts.distinct (counts-positive es counts) fit)

fit-of : (width : ℕ) (key : List ℕ) (rows es : Counted) → IsGiven width key rows es → AllByRecursion (λ (e : Cells Term × ℤ). Fits width key e.0) es
fit-of width key rows es given = part es given
  where
    part : (ds : Counted) → AllByRecursion (λ (e : Cells Term × ℤ). Fits width key e.0 × (pos 0 ≤ℤ (weight (row_eq term_eq) rows e.0 +ℤ weight (row_eq term_eq) es e.0))) ds → AllByRecursion (λ (e : Cells Term × ℤ). Fits width key e.0) ds
    part [] all = tt
    part (e ∷ ds) all = (all.0.0, part ds all.1)

enough-of : (width : ℕ) (key : List ℕ) (rows es : Counted) → IsGiven width key rows es → AllByRecursion (λ (e : Cells Term × ℤ). pos 0 ≤ℤ (weight (row_eq term_eq) rows e.0 +ℤ weight (row_eq term_eq) es e.0)) es
enough-of width key rows es given = part es given
  where
    part : (ds : Counted) → AllByRecursion (λ (e : Cells Term × ℤ). Fits width key e.0 × (pos 0 ≤ℤ (weight (row_eq term_eq) rows e.0 +ℤ weight (row_eq term_eq) es e.0))) ds → AllByRecursion (λ (e : Cells Term × ℤ). pos 0 ≤ℤ (weight (row_eq term_eq) rows e.0 +ℤ weight (row_eq term_eq) es e.0)) ds
    part [] all = tt
    part (e ∷ ds) all = (all.0.1, part ds all.1)

-- no row is there less than not at all
pub enough : (width : ℕ) (key : List ℕ) (rows change : Counted) → AreCounts (row_eq term_eq) rows → IsGiven width key rows change → (q : Cells Term) → pos 0 ≤ℤ (weight (row_eq term_eq) rows q +ℤ weight (row_eq term_eq) change q)
enough width key rows change counts given q = by (weight (row_eq term_eq) change q) refl
  where
    there : pos 0 ≤ℤ weight (row_eq term_eq) rows q
    there = weight-ge (row_eq term_eq) rows counts q

    weighed : weight (row_eq term_eq) change q ≢ pos 0 → pos 0 ≤ℤ (weight (row_eq term_eq) rows q +ℤ weight (row_eq term_eq) change q)
    weighed = weighed-has (λ row. pos 0 ≤ℤ (weight (row_eq term_eq) rows row +ℤ weight (row_eq term_eq) change row)) change (enough-of width key rows change given) q

    by : (n : ℤ) → weight (row_eq term_eq) change q ≡ n → pos 0 ≤ℤ (weight (row_eq term_eq) rows q +ℤ weight (row_eq term_eq) change q)
    by (pos n) is = let held = there in omega (arith, ints, held, is)
    by (negsuc n) is = weighed (λ none. let never : ⊥ = omega (arith, ints, is, none) in never)

pub fit-after : (width : ℕ) (key : List ℕ) (before change after : Counted) → AreFit width key before → IsGiven width key before change → IsSum before change after → AreFit width key after
fit-after width key before change after fit given sum row some = by (weight (row_eq term_eq) change row) refl
  where
    weighed : weight (row_eq term_eq) change row ≢ pos 0 → Fits width key row
    weighed = weighed-has (Fits width key) change (fit-of width key before change given) row

    by : (n : ℤ) → weight (row_eq term_eq) change row ≡ n → Fits width key row
    by (pos zero) is = fit row (λ gone. some (let whole = sum row in omega (arith, ints, whole, is, gone)))
    by (pos (suc n)) is = weighed (λ none. let never : ⊥ = omega (arith, ints, is, none) in never)
    by (negsuc n) is = weighed (λ none. let never : ⊥ = omega (arith, ints, is, none) in never)

-- ---- a change leads

row-same : (row : Cells Term) → shown_row (λ v. v) row ≡ row
row-same [] = refl
row-same (None ∷ row) = ap (λ r. None ∷ r) (row-same row)
row-same (Some t ∷ row) = ap (λ r. Some t ∷ r) (row-same row)

weight-same : (es : Counted) (q : Cells Term) → weight_shown (row_eq term_eq) (shown_row (λ v. v)) es q ≡ weight (row_eq term_eq) es q
weight-same [] q = refl
weight-same (e ∷ es) q = λ i. (ap (λ r. e.1 *ℤ only (row_eq term_eq q r) (pos 1)) (row-same e.0) ∙ times-only e.1 (row_eq term_eq q e.0)) i +ℤ weight-same es q i

pub leads : (before change after : Counted) → AreCounts (row_eq term_eq) before → AreCounts (row_eq term_eq) after → IsSum before change after → Leads (λ v. v) (rows_of before) change (rows_of after)
leads before change after counts counts' sum q =
    let was = times-rows before (counts-positive before counts) q in
    let is = times-rows after (counts-positive after counts') q in
    let more = weight-same change q in
    let whole = sum q in
    omega (arith, ints, was, is, more, whole)

module _ (knows : Term → Type 0) (all : (v : Term) → knows v) (width : ℕ) (key : List ℕ) where
  value-known : (value : Option Term) → IfSome value knows
  value-known None = tt
  value-known (Some v) = all v

  row-known : (row : Cells Term) → IsKnown knows row
  row-known [] = tt
  row-known (c ∷ row) = (value-known c, row-known row)

  pub change_fits : (es : Counted) → AllByRecursion (λ (e : Cells Term × ℤ). Fits width key e.0) es → ChangesFit width key knows es
  change_fits [] fit = tt
  change_fits (e ∷ es) fit = ((fit.0, row-known e.0), change_fits es fit.1)

-- ---- changes that are the same

none-weighed : (es : Counted) → (length es == 0) ≡ true → (q : Cells Term) → weight (row_eq term_eq) es q ≡ pos 0
none-weighed [] none q = refl
none-weighed (e ∷ es) none q = absurd (search rules)

pub same-where_none : (start first_added apart first second : Counted) → start ≡ [] → IsSum start first first_added
    → ((q : Cells Term) → weight (row_eq term_eq) apart q ≡ weight (row_eq term_eq) first_added q +ℤ neg_ℤ (weight (row_eq term_eq) second q))
    → (is : Bool) → is ≡ (length apart == 0) → is ≡ true → (q : Cells Term) → weight (row_eq term_eq) first q ≡ weight (row_eq term_eq) second q
same-where_none start first_added apart first second none sum difference is empty holds q =
    let nothing = ap (λ es. weight (row_eq term_eq) es q) none in
    let came = sum q in
    let went = difference q in
    let rest = none-weighed apart (sym empty ∙ holds) q in
    omega (arith, ints, nothing, came, went, rest)

-- ---- one input

module _ (knows : Term → Type 0) (all : (v : Term) → knows v) (width : ℕ) (key : List ℕ) (Stands : List (Cells Term) → Type 0) (long : ℕ) (bound : List ℕ) (before change after : Counted) where
  pub may_be_given : StandsForRows width key Stands long bound before → IsGiven long bound before change → AreCounts (row_eq term_eq) before → AreCounts (row_eq term_eq) after → IsSum before change after
      → MayBeGiven width key knows (λ v. v) Stands change
  may_be_given s given counts counts' sum =
      subst (λ w. MayBeGiven w key knows (λ v. v) Stands change) (sym s.width_is) (subst (λ k. MayBeGiven long k knows (λ v. v) Stands change) (sym s.key_is) made)
    where
      made : MayBeGiven long bound knows (λ v. v) Stands change
      made =
          record {
            fit = change_fits knows all long bound change (fit-of long bound before change given);
            before = rows_of before;
            after = rows_of after;
            stands = s.stands;
            before_fit = all-fit long bound before counts s.fit;
            after_fit = all-fit long bound after counts' (fit-after long bound before change after s.fit given sum);
            leads = leads before change after counts counts' sum;
          }

  -- what the operator's law says of the lists carries over
  pub stands-after : (width' : ℕ) (key' : List ℕ) (Stands' : List (Cells Term) → Type 0) → StandsForRows width key Stands long bound before → IsGiven long bound before change → AreCounts (row_eq term_eq) before → AreCounts (row_eq term_eq) after → IsSum before change after
      → width' ≡ width → key' ≡ key → ((xs ys : List (Cells Term)) → Stands xs → Leads (λ v. v) xs change ys → Stands' ys) → StandsForRows width' key' Stands' long bound after
  stands-after width' key' Stands' s given counts counts' sum w k law =
      record {
        width_is = w ∙ s.width_is;
        key_is = k ∙ s.key_is;
        fit = fit-after long bound before change after s.fit given sum;
        stands = law (rows_of before) (rows_of after) s.stands (leads before change after counts counts' sum);
      }

-- ---- two inputs

module _ (knows : Term → Type 0) (all : (v : Term) → knows v) (width : ℕ) (key : List ℕ) (Stands : List (Cells Term) → List (Cells Term) → Type 0)
    (long : ℕ) (bound : List ℕ) (before change after : Counted) (long' : ℕ) (bound' : List ℕ) (before' change' after' : Counted) where
  pub may_both_be_given : StandsForBoth width key Stands long bound before long' bound' before'
      → IsGiven long bound before change → AreCounts (row_eq term_eq) before → AreCounts (row_eq term_eq) after → IsSum before change after
      → IsGiven long' bound' before' change' → AreCounts (row_eq term_eq) before' → AreCounts (row_eq term_eq) after' → IsSum before' change' after'
      → MayBothBeGiven width key knows (λ v. v) Stands change change'
  may_both_be_given s given counts counts_after sum given' counts' counts_after' sum' =
      record {
        left_fits = left (λ w k. ChangesFit w k knows change) (change_fits knows all long bound change (fit-of long bound before change given));
        right_fits = right (λ w k. ChangesFit w k knows change') (change_fits knows all long' bound' change' (fit-of long' bound' before' change' given'));
        lefts = rows_of before;
        rights = rows_of before';
        lefts_after = rows_of after;
        rights_after = rows_of after';
        stands = s.stands;
        before_fit = (
          left (λ w k. AllFit w k (rows_of before)) (all-fit long bound before counts s.left_fit),
          right (λ w k. AllFit w k (rows_of before')) (all-fit long' bound' before' counts' s.right_fit),
        );
        after_fit = (
          left (λ w k. AllFit w k (rows_of after)) (all-fit long bound after counts_after (fit-after long bound before change after s.left_fit given sum)),
          right (λ w k. AllFit w k (rows_of after')) (all-fit long' bound' after' counts_after' (fit-after long' bound' before' change' after' s.right_fit given' sum')),
        );
        left_leads = leads before change after counts counts_after sum;
        right_leads = leads before' change' after' counts' counts_after' sum';
      }
    where
      left : (P : ℕ → List ℕ → Type 0) → P long bound → P width key
      left P h = subst (λ w. P w key) (sym s.left_width) (subst (λ k. P long k) (sym s.left_key) h)

      right : (P : ℕ → List ℕ → Type 0) → P long' bound' → P width key
      right P h = subst (λ w. P w key) (sym s.right_width) (subst (λ k. P long' k) (sym s.right_key) h)

  pub stand-after : (width' : ℕ) (key' : List ℕ) (Stands' : List (Cells Term) → List (Cells Term) → Type 0) → StandsForBoth width key Stands long bound before long' bound' before'
      → IsGiven long bound before change → AreCounts (row_eq term_eq) before → AreCounts (row_eq term_eq) after → IsSum before change after
      → IsGiven long' bound' before' change' → AreCounts (row_eq term_eq) before' → AreCounts (row_eq term_eq) after' → IsSum before' change' after'
      → width' ≡ width → key' ≡ key
      → ((xs xs' ys ys' : List (Cells Term)) → Stands xs ys → Leads (λ v. v) xs change xs' → Leads (λ v. v) ys change' ys' → Stands' xs' ys')
      → StandsForBoth width' key' Stands' long bound after long' bound' after'
  stand-after width' key' Stands' s given counts counts_after sum given' counts' counts_after' sum' w k law =
      record {
        left_width = w ∙ s.left_width;
        left_key = k ∙ s.left_key;
        left_fit = fit-after long bound before change after s.left_fit given sum;
        right_width = w ∙ s.right_width;
        right_key = k ∙ s.right_key;
        right_fit = fit-after long' bound' before' change' after' s.right_fit given' sum';
        stands = law (rows_of before) (rows_of after) (rows_of before') (rows_of after') s.stands (leads before change after counts counts_after sum) (leads before' change' after' counts' counts_after' sum');
      }
