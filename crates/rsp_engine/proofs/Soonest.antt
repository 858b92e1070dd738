-- The first place by the instants at which queries are due next.
use Rattle.std.proofs.Common.{◌≡◌, inl, inr, ℕ, zero, suc, ◌+◌, ◌-◌, ◌<◌, ◌≤◌, Bool, true, false, ◌||◌, cond, List, [], ◌∷◌, filter, drop, length, get_or, min, slice_get, Option, None, Some, refl, sym, ap, subst, ◌∙◌, arith, nat_lt, if◌then◌else◌}
use Rattle.std.specs.List.{list_any}
use Rattle.std.specs.Option.{option_map_or}
use Rattle.std.proofs.lemmas.Bool.{cases_lt, le-ltb, lt-ltb, ltb-false, ltb-true}
use Rattle.std.proofs.lemmas.List.{get_or_default}
use Rattle.std.proofs.lemmas.Option.{get_or_from_slice_get, same_Some, slice_get-get_or, slice_get_within}
use Rattle.rsp_spec.specs.Instants.{IsLeastIn}
use Rattle.rsp_engine.specs.declared.schedule.Pending.{Pending}
use Rattle.rsp_engine.specs.Left.{IsFirstLeft, left_from}
use Rattle.rsp_engine.specs.Sought.{IsSoonest, IsSoonestAt, first_number, look_behind, sooner}
use Rattle.rsp_engine.proofs.Left.{jump, over, quiet}

-- ---- the instant from which on a query is still to be looked at

look_by : (next at query i : ℕ) (b : Bool) → nat_lt i query ≡ b
    → min (if b then at + 1 else at) next ≡ min (at + min 1 (query - i)) next
look_by next at query i true is = let less : i < query = ltb-true i query is in omega (arith, less)
look_by next at query i false is = let more : query ≤ i = ltb-false i query is in omega (arith, more)

pub look_is : (next i : ℕ) (place : Pending) → look_behind next place i ≡ min (place.at + min 1 (place.query - i)) next
look_is next i place = look_by next place.at place.query i (nat_lt i place.query) refl

-- ---- the least instant, once some are passed

pub least_later : (p : ℕ → Type 0) (from later to : ℕ) (r : Option ℕ) → from ≤ later → ((n : ℕ) → r ≡ Some n → later ≤ n)
    → IsLeastIn p from to r → IsLeastIn p later to r
least_later p from later to None low beyond is = λ t late early holds. is t (omega (arith, low, late)) early holds
least_later p from later to (Some n) low beyond is = (beyond n refl, is.1, is.2, λ t late holds. is.3 t (omega (arith, low, late)) holds)

-- ---- the query that is due soonest, one query more

module _ {X : Type 0} (due : X → Option ℕ) (xs : List X) (next i : ℕ) (x : X) (within : i < length xs) (is : x ≡ get_or xs i x) where
  due_at : (d : X) → due (get_or xs i d) ≡ due x
  due_at d = ap due (get_or_default xs i d x within ∙ sym is)

  listed_at : slice_get xs i ≡ Some x
  listed_at = slice_get-get_or xs i x within ∙ ap Some (sym is)

  -- before i or at i
  up_to : (P : ℕ → Type 0) (k : ℕ) → k < i + 1 → ((k : ℕ) → k < i → P k) → P i → P k
  up_to P k below before here = elim (cases_lt k i) [
    | inl less ↦ before k less
    | inr more ↦ let same : i ≡ k = omega (arith, below, more) in subst P same here
  ]

  -- none of the first is due before the best of them
  abbrev limit : Option Pending → ℕ
  limit best = option_map_or (λ (place : Pending). place.at) best next

  limit_low : (best : Option Pending) → IsSoonest due xs i next best → (k n : ℕ) (d : X) → k < i → due (get_or xs k d) ≡ Some n
      → limit best ≤ n
  limit_low None none = none
  limit_low (Some place) best = best.least

  limit_high : (best : Option Pending) → IsSoonest due xs i next best → limit best ≤ next
  limit_high None none = omega arith
  limit_high (Some place) best = let below = best.below in omega (arith, below)

  -- it isn't due before
  kept : (best : Option Pending) → ((n : ℕ) → due x ≡ Some n → limit best ≤ n) → IsSoonest due xs i next best
      → IsSoonest due xs (i + 1) next best
  kept None late none = λ k n d below at.
      up_to (λ k. due (get_or xs k d) ≡ Some n → next ≤ n) k below (λ k less. none k n d less) (λ at. late n (sym (due_at d) ∙ at)) at
  kept (Some place) late best = record {
    one = best.one;
    listed = best.listed;
    is_due = best.is_due;
    within = let inside = best.within in omega (arith, inside);
    below = best.below;
    least = λ k n d below at.
        up_to (λ k. due (get_or xs k d) ≡ Some n → place.at ≤ n) k below (λ k less. best.least k n d less) (λ at. late n (sym (due_at d) ∙ at)) at;
    first = best.first;
  }

  -- or it is
  put : (best : Option Pending) (at : ℕ) → due x ≡ Some at → at < limit best → IsSoonest due xs i next best
      → IsSoonest due xs (i + 1) next (Some (record { at = at; query = i }))
  put best at is_due less before = record {
    one = x;
    listed = listed_at;
    is_due = is_due;
    within = omega arith;
    below = let high = limit_high best before in omega (arith, less, high);
    least = λ k n d below found.
        up_to (λ k. due (get_or xs k d) ≡ Some n → at ≤ n) k below
        (λ k less_k found. let low = limit_low best before k n d less_k found in omega (arith, low, less))
        (λ found. let same : at ≡ n = same_Some _ _ (sym is_due ∙ (sym (due_at d) ∙ found)) in omega (arith, same)) found;
    first = λ k n d less_k found. let low = limit_low best before k n d less_k found in omega (arith, low, less);
  }

  more_by : (best : Option Pending) (o : Option ℕ) → due x ≡ o → IsSoonest due xs i next best
      → IsSoonest due xs (i + 1) next (sooner best o i next)
  more_by best None is_o before = kept best (λ n at. absurd (none_some n (sym is_o ∙ at))) before
    where
      none_some : (n : ℕ) → None ≡ Some n → ⊥
      none_some n same = cc
  more_by best (Some at) is_o before = by (nat_lt at (limit best)) refl
    where
      by : (b : Bool) → nat_lt at (limit best) ≡ b
          → IsSoonest due xs (i + 1) next (if b then Some (record { at = at; query = i }) else best)
      by true is_b = put best at is_o (ltb-true at (limit best) is_b) before
      by false is_b =
          kept best (λ n found. let same : at ≡ n = same_Some _ _ (sym is_o ∙ found) in let late = ltb-false at (limit best) is_b in omega (arith, same, late)) before

  pub one_sooner : (best : Option Pending) → IsSoonest due xs i next best → IsSoonest due xs (i + 1) next (sooner best (due x) i next)
  one_sooner best before = more_by best (due x) refl before

-- once all are looked at
pub all_sooner : {X : Type 0} (due : X → Option ℕ) (xs : List X) (next i : ℕ) (best : Option Pending) → length xs ≤ i → IsSoonest due xs i next best
    → IsSoonest due xs (length xs) next best
all_sooner due xs next i None end none = λ k n d below at. none k n d (omega (arith, below, end)) at
all_sooner due xs next i (Some place) end best = record {
  one = best.one;
  listed = best.listed;
  is_due = best.is_due;
  within = slice_get_within xs place.query best.one best.listed;
  below = best.below;
  least = λ k n d below at. best.least k n d (omega (arith, below, end)) at;
  first = best.first;
}

-- ---- queries that don't report at an instant

module _ {X : Type 0} (test : X → Bool) where
  fails_before : (xs : List X) (k : ℕ) → ((m : ℕ) (d : X) → m < k → m < length xs → test (get_or xs m d) ≡ false)
      → filter test xs ≡ filter test (drop k xs)
  fails_before [] zero none = refl
  fails_before [] (suc k) none = refl
  fails_before (x ∷ xs) zero none = refl
  fails_before (x ∷ xs) (suc k) none =
      let first : test x ≡ false = none 0 x (omega arith) (omega arith) in
      ap (λ b. cond b (x ∷ filter test xs) (filter test xs)) first
      ∙ fails_before xs k (λ m d less inside. none (suc m) d (omega (arith, less)) (omega (arith, inside)))

  pub fails_between : (xs : List X) (j k : ℕ) → j ≤ k → ((m : ℕ) (d : X) → j ≤ m → m < k → m < length xs → test (get_or xs m d) ≡ false)
      → filter test (drop j xs) ≡ filter test (drop k xs)
  fails_between xs zero k low none = fails_before xs k (λ m d less inside. none m d (omega arith) less inside)
  fails_between [] (suc j) zero low none = refl
  fails_between [] (suc j) (suc k) low none = refl
  fails_between (x ∷ xs) (suc j) zero low none = absurd (omega (arith, low))
  fails_between (x ∷ xs) (suc j) (suc k) low none =
      fails_between xs j k (omega (arith, low))
      (λ m d more less inside. none (suc m) d (omega (arith, more)) (omega (arith, less)) (omega (arith, inside)))

  pub fails_from : (xs : List X) (j : ℕ) → ((m : ℕ) (d : X) → j ≤ m → m < length xs → test (get_or xs m d) ≡ false)
      → filter test (drop j xs) ≡ []
  fails_from [] zero none = refl
  fails_from [] (suc j) none = refl
  fails_from (x ∷ xs) zero none =
      let first : test x ≡ false = none 0 x (omega arith) (omega arith) in
      ap (λ b. cond b (x ∷ filter test xs) (filter test xs)) first
      ∙ fails_from xs 0 (λ m d more inside. none (suc m) d (omega arith) (omega (arith, inside)))
  fails_from (x ∷ xs) (suc j) none =
      fails_from xs j (λ m d more inside. none (suc m) d (omega (arith, more)) (omega (arith, inside)))

  fails_all : (xs : List X) → ((m : ℕ) (d : X) → m < length xs → test (get_or xs m d) ≡ false) → list_any test xs ≡ false
  fails_all [] none = refl
  fails_all (x ∷ xs) none =
      let first : test x ≡ false = none 0 x (omega arith) in
      ap (λ b. b || list_any test xs) first ∙ fails_all xs (λ m d inside. none (suc m) d (omega (arith, inside)))

-- ---- the first place

module _ {Q : Type 0} (name : Q → List ℕ) (test : ℕ → Q → Bool) (queries : List Q) (next t i : ℕ) (low : t ≤ next) where
  -- from a place to another between which none reports
  skipped : (u k : ℕ) → t ≤ u → u ≤ next → (u ≡ t → i ≤ k)
      → ((s m : ℕ) (d : Q) → m < length queries → t ≤ s → (s ≡ t → i ≤ m) → s ≤ u → (s ≡ u → m < k) → test s (get_or queries m d) ≡ false)
      → left_from name test queries next t i ≡ left_from name test queries next u k
  skipped u k behind high order none = elim (cases_lt t u) [
    | inl less ↦
        over name test queries next t i
        (fails_from (test t) queries i
        (λ m d more inside. none t m d inside (omega arith) (λ same. more) (omega (arith, less)) (λ same. absurd (omega (arith, less, same)))))
        (omega (arith, less, high))
        ∙ (jump name test queries next (t + 1) u (omega (arith, less)) high
        (λ s late early. fails_all (test s) queries
        (λ m d inside. none s m d inside (omega (arith, late)) (λ same. absurd (omega (arith, late, same))) (omega (arith, early)) (λ same. absurd (omega (arith, early, same)))))
        ∙ quiet name test queries next u 0 k
        (fails_before (test u) queries k
        (λ m d below inside. none u m d inside behind (λ same. absurd (omega (arith, less, same))) (omega arith) (λ same. below))))
    | inr more ↦
        let same : u ≡ t = omega (arith, behind, more) in
        quiet name test queries next t i k
        (fails_between (test t) queries i k (order same)
        (λ m d after below inside. none t m d inside (omega arith) (λ is. after) (omega (arith, same)) (λ is. below)))
        ∙ ap (λ s. left_from name test queries next s k) (sym same)
  ]

  module _ (due : Q → Option ℕ)
      (sound : (k n : ℕ) (d : Q) → k < length queries → due (get_or queries k d) ≡ Some n → n < next
      → (t ≤ n) × (n ≡ t → i ≤ k) × (test n (get_or queries k d) ≡ true))
      (known : (k s : ℕ) (d : Q) → k < length queries → t ≤ s → (s ≡ t → i ≤ k) → s < next → test s (get_or queries k d) ≡ true
      → (n : ℕ) × (due (get_or queries k d) ≡ Some n) × (n ≤ s)) where
    false_by : (b : Bool) → (b ≡ true → ⊥) → b ≡ false
    false_by true never = absurd (never refl)
    false_by false never = refl

    -- the one that is due soonest
    pub first_by_number : (place : Pending) → IsSoonestAt due queries (length queries) next place
        → IsFirstLeft name test queries next t i (Some place)
    first_by_number place is =
        let below = is.below in
        let one : get_or queries place.query is.one ≡ is.one = get_or_from_slice_get queries place.query is.one is.one is.listed in
        let there = sound place.query place.at is.one is.within (ap due one ∙ is.is_due) is.below in (
          record { within = omega (arith, below); query = is.one; listed = is.listed; reports = subst (λ q. test place.at q ≡ true) one there.2 },
          there.0,
          there.1,
          skipped place.at place.query there.0 (omega (arith, below)) there.1
              (λ s m d inside late order early before.
              false_by (test s (get_or queries m d))
              (λ reports.
              let found = known m s d inside late order (omega (arith, early, below)) reports in
              let least = is.least m found.0 d inside found.1 in
              let same : s ≡ place.at = omega (arith, early, least, found.2) in
              let first = is.first m found.0 d (before same) found.1 in
              omega (arith, first, found.2, early))),
        )

    -- the number from which on queries are left at `next` itself
    abbrev number : ℕ
    number = first_number (record { at = t; query = i }) next

    number_is : next ≡ t → i ≤ number
    number_is same = subst (λ b. i ≤ (if b then 0 else i)) (sym (le-ltb t next (omega (arith, same)))) (omega arith)

    number_none : t < next → number ≡ 0
    number_none less = ap (λ b. if b then 0 else i) (lt-ltb t next less)

    number_low : next ≡ t → number ≡ i
    number_low same = ap (λ b. if b then 0 else i) (le-ltb t next (omega (arith, same)))

    all_before : IsSoonest due queries (length queries) next None
        → left_from name test queries next t i ≡ left_from name test queries next next number
    all_before none =
        skipped next number low (omega arith) number_is
        (λ s m d inside late order early before.
        false_by (test s (get_or queries m d))
        (λ reports.
        elim (cases_lt s next) [
          | inl less ↦
              let found = known m s d inside late order less reports in
              let beyond = none m found.0 d inside found.1 in
              omega (arith, beyond, found.2, less)
          | inr more ↦
              let same : s ≡ next = omega (arith, early, more) in
              let below = before same in
              elim (cases_lt t next) [
                | inl less ↦ let zero_is = number_none less in omega (arith, below, zero_is)
                | inr equal ↦
                    let low_is = number_low (omega (arith, low, equal)) in
                    let after = order (omega (arith, same, low, equal)) in
                    omega (arith, below, low_is, after)
              ]
        ]))

    -- or none is due
    pub first_at_next : IsSoonest due queries (length queries) next None → (r : Option Pending)
        → IsFirstLeft name test queries next next number r → IsFirstLeft name test queries next t i r
    first_at_next none None at_next = all_before none ∙ at_next
    first_at_next none (Some place) at_next = (
      at_next.0,
      let late = at_next.1 in omega (arith, low, late),
      λ same.
          let late = at_next.1 in
          let within = at_next.0.within in
          let last : place.at ≡ next = omega (arith, late, within) in
          let order = at_next.2 last in
          let low_is = number_low (omega (arith, last, same)) in
          omega (arith, order, low_is),
      all_before none ∙ at_next.3,
    )
