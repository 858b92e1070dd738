-- The first from a number on that passes, among those of the places of another test.
use Rattle.std.proofs.Common.{◌≡◌, inl, inr, ℕ, zero, suc, ◌+◌, ◌<◌, ◌≤◌, Bool, true, false, true≢false, cond, List, [], ◌∷◌, filter, drop, length, get_or, slice_get, nat_eq, nat_le, ◌&&◌, Some, refl, sym, ap, subst, ◌∙◌, arith, eqb-true}
use Rattle.std.proofs.lemmas.Bool.{and_parts, cases_lt, eq-eqb, le-leb, leb-true, or_cases, or_from, or_left, or_right}
use Rattle.std.proofs.lemmas.List.{drop_all, drop_more, get_or_default}
use Rattle.rsp_engine.specs.Left.{IsFirstAt}
use Rattle.rsp_engine.specs.Readers.{places_from}
use Rattle.rsp_engine.proofs.PlacesRead.{among, among_is, low}
use Rattle.rsp_engine.proofs.Soonest.{fails_between, fails_from}

among_own : (l : List ℕ) (i d : ℕ) → i < length l → among l (get_or l i d) ≡ true
among_own [] i d within = absurd (omega (arith, within))
among_own (x ∷ l) zero d within = or_left (nat_eq x x) (among l x) (eq-eqb x x refl)
among_own (x ∷ l) (suc i) d within = or_right (nat_eq x (get_or l i d)) (among l (get_or l i d)) (among_own l i d (omega (arith, within)))

-- those from a number on fail that aren't at the places from number i on
abbrev pub FailSoFar : {X : Type 0} → (X → Bool) → List X → List ℕ → ℕ → ℕ → Type 0
FailSoFar {X} passes xs places number i =
    (m : ℕ) (d : X) → number ≤ m → m < length xs → among (drop i places) m ≡ false → passes (get_or xs m d) ≡ false

module _ {X : Type 0} (test : X → Bool) where
  -- the places behind a number are not before the first of them
  low_rest : (n : ℕ) (xs : List X) (i d m : ℕ) → i < length (places_from test n xs) → among (drop i (places_from test n xs)) m ≡ true
      → get_or (places_from test n xs) i d ≤ m
  low_rest n [] i d m within there = absurd (omega (arith, within))
  low_rest n (x ∷ xs) i d m within there = by (test x) i within there (λ j inside there. low_rest (suc n) xs j d m inside there)
    where
      by : (b : Bool) (i : ℕ) → i < length (cond b (n ∷ places_from test (suc n) xs) (places_from test (suc n) xs))
          → among (drop i (cond b (n ∷ places_from test (suc n) xs) (places_from test (suc n) xs))) m ≡ true
          → ((j : ℕ) → j < length (places_from test (suc n) xs) → among (drop j (places_from test (suc n) xs)) m ≡ true
          → get_or (places_from test (suc n) xs) j d ≤ m)
          → get_or (cond b (n ∷ places_from test (suc n) xs) (places_from test (suc n) xs)) i d ≤ m
      by true zero inside there rest = elim (or_cases (nat_eq n m) (among (places_from test (suc n) xs) m) there) [
        | inl same ↦ let is = eqb-true n m same in omega (arith, is)
        | inr later ↦ elim (cases_lt m (suc n)) [
          | inl less ↦ absurd (true≢false (sym later ∙ low test (suc n) xs m less))
          | inr more ↦ omega (arith, more)
        ]
      ]
      by true (suc i) inside there rest = rest i (omega (arith, inside)) there
      by false i inside there rest = rest i inside there

  module _ (passes : X → Bool) (xs : List X) (places : List ℕ) (is : places ≡ places_from test 0 xs) where
    -- what stands at a place passes the other test
    pub place_passes : (i p : ℕ) (x : X) → i < length places → p ≡ get_or places i 0 → p < length xs → x ≡ get_or xs p x → test x ≡ true
    place_passes i p x within at inside listed =
        let there : among places p ≡ true = ap (among places) at ∙ among_own places i 0 within in
        ap test listed ∙ (sym (among_is test xs p x inside) ∙ subst (λ l. among l p ≡ true) is there)

    module _ (number : ℕ) where
      pub fail_first : ((x : X) → test x ≡ false → passes x ≡ false) → FailSoFar passes xs places number 0
      fail_first other m d more inside none =
          other (get_or xs m d) (sym (among_is test xs m d inside) ∙ subst (λ l. among l m ≡ false) is none)

      module _ (i p : ℕ) (x : X) (within : i < length places) (at : p ≡ get_or places i 0) (inside : p < length xs) (listed : x ≡ get_or xs p x) where
        pub fail_more : (number ≤ p → passes x ≡ false) → FailSoFar passes xs places number i → FailSoFar passes xs places number (i + 1)
        fail_more fails before m d more below none = by (nat_eq p m) refl
          where
            rest_is : drop i places ≡ p ∷ drop (i + 1) places
            rest_is = drop_more places i 0 within ∙ ap (λ q. q ∷ drop (i + 1) places) (sym at)

            by : (b : Bool) → nat_eq p m ≡ b → passes (get_or xs m d) ≡ false
            by true same =
                let equal : p ≡ m = eqb-true p m same in
                subst (λ k. passes (get_or xs k d) ≡ false) equal
                (ap passes (get_or_default xs p d x inside ∙ sym listed) ∙ fails (omega (arith, more, equal)))
            by false apart = before m d more below (ap (λ l. among l m) rest_is ∙ or_from (nat_eq p m) (among (drop (i + 1) places) m) apart none)

        pub first_there : slice_get xs p ≡ Some x → number ≤ p → passes x ≡ true → FailSoFar passes xs places number i → IsFirstAt passes xs number (Some p)
        first_there at_p more holds before = (
          more,
          (x, at_p, holds),
          fails_between passes xs number p more (λ m d after less below. before m d after below (none_before m less)),
        )
          where
            none_before : (m : ℕ) → m < p → among (drop i places) m ≡ false
            none_before m less = by (among (drop i places) m) refl
              where
                by : (b : Bool) → among (drop i places) m ≡ b → b ≡ false
                by false there = refl
                by true there =
                    let lowest : get_or places i 0 ≤ m =
                    subst (λ l. get_or l i 0 ≤ m) (sym is)
                    (low_rest 0 xs i 0 m (subst (λ l. i < length l) is within) (subst (λ l. among (drop i l) m ≡ true) is there)) in
                    absurd (omega (arith, lowest, at, less))

      pub none_there : (i : ℕ) → length places ≤ i → FailSoFar passes xs places number i → filter passes (drop number xs) ≡ []
      none_there i end before =
          fails_from passes xs number (λ m d more inside. before m d more inside (ap (λ l. among l m) (drop_all i places end)))

-- ---- a test of those from a number on

pub left_false : (a b : ℕ) (x : Bool) → (nat_le a b && x) ≡ false → a ≤ b → x ≡ false
left_false a b x none more = ap (λ t. t && x) (sym (le-leb a b more)) ∙ none

pub left_true : (a b : ℕ) (x : Bool) → (nat_le a b && x) ≡ true → (a ≤ b) × (x ≡ true)
left_true a b x holds = let parts = and_parts (nat_le a b) x holds in (leb-true a b parts.0, parts.1)
