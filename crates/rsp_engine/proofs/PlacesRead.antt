-- The places of those that pass a test, and what is done at them one after another.
use Rattle.std.proofs.Common.{◌≡◌, ◌≢◌, ℕ, zero, suc, ◌+◌, ◌-◌, ◌<◌, ◌≤◌, Bool, true, false, true≢false, cond, if◌then◌else◌, ◌||◌, List, [], ◌∷◌, ◌++◌, length, map, filter, take, drop, set, get_or, remove, nat_eq, nat_lt, not, length-set, get_or-set_same, get_or-set_other, refl, sym, ap, subst, ◌∙◌, arith, add-one, append-nil, eqb-true}
use Rattle.std.specs.List.{All, list_any}
use Rattle.std.proofs.lemmas.Bool.Decides.{nat_tests}
use Rattle.std.proofs.lemmas.List.{drop_all, get_or_default, take_all, take_more}
use Rattle.std.proofs.lemmas.List.Folds.{list_any-append}
use Rattle.rsp_engine.specs.Readers.{lowered, places_from, without}
use Rattle.rsp_engine.specs.Watched.{AreChanged}

abbrev pub among : List ℕ → ℕ → Bool
among places k = list_any (λ p. nat_eq p k) places

pub differs : (a b : ℕ) → a < b → nat_eq a b ≡ false
differs a b less = grind (arith, nat_tests, less)

pub differs_back : (a b : ℕ) → b < a → nat_eq a b ≡ false
differs_back a b less = grind (arith, nat_tests, less)

is_less : (a b : ℕ) → a < b → nat_lt a b ≡ true
is_less a b less = grind (arith, nat_tests, less)

not_less : (a b : ℕ) → b ≤ a → nat_lt a b ≡ false
not_less a b less = grind (arith, nat_tests, less)

pub lowered_above : (place e : ℕ) → place ≤ e → lowered place (suc e) ≡ e
lowered_above place e less =
    let last : suc e - 1 ≡ e = omega arith in ap (λ b. if b then suc e - 1 else suc e) (is_less place (suc e) (omega (arith, less))) ∙ last

pub lowered_below : (place e : ℕ) → e ≤ place → lowered place e ≡ e
lowered_below place e less = ap (λ b. if b then e - 1 else e) (not_less place e less)

pub same_nat : (a b : ℕ) → a ≡ b → nat_eq a b ≡ true
same_nat a b same = grind (arith, nat_tests, same)

or_false : (a b : Bool) → a ≡ false → b ≡ false → (a || b) ≡ false
or_false true b h g = h
or_false false b h g = g

-- the same by what is read of each
pub places_map : {X Y : Type 0} (test : Y → Bool) (f : X → Y) (n : ℕ) (xs : List X)
    → places_from test n (map f xs) ≡ places_from (λ x. test (f x)) n xs
places_map test f n [] = refl
places_map test f n (x ∷ xs) = ap (λ l. cond (test (f x)) (n ∷ l) l) (places_map test f (suc n) xs)

module _ {X : Type 0} (test : X → Bool) where
  abbrev places : ℕ → List X → List ℕ
  places n xs = places_from test n xs

  bounds : (n : ℕ) (xs : List X) (i d : ℕ) → i < length (places n xs)
      → (n ≤ get_or (places n xs) i d) × (get_or (places n xs) i d < n + length xs)
  bounds n [] i d within = absurd (omega (arith, within))
  bounds n (x ∷ xs) i d within = by (test x) i within (λ j inside. bounds (suc n) xs j d inside)
    where
      by : (b : Bool) (i : ℕ) → i < length (cond b (n ∷ places (suc n) xs) (places (suc n) xs))
          → ((j : ℕ) → j < length (places (suc n) xs)
          → (suc n ≤ get_or (places (suc n) xs) j d) × (get_or (places (suc n) xs) j d < suc n + length xs))
          → (n ≤ get_or (cond b (n ∷ places (suc n) xs) (places (suc n) xs)) i d)
          × (get_or (cond b (n ∷ places (suc n) xs) (places (suc n) xs)) i d < n + length (x ∷ xs))
      by true zero inside rest = (omega arith, omega arith)
      by true (suc i) inside rest = let r = rest i (omega (arith, inside)) in (omega (arith, r.0), omega (arith, r.1))
      by false i inside rest = let r = rest i inside in (omega (arith, r.0), omega (arith, r.1))

  -- each place is within the list
  place_within : (xs : List X) (i d : ℕ) → i < length (places 0 xs) → get_or (places 0 xs) i d < length xs
  place_within xs i d within = let b = (bounds 0 xs i d within).1 in omega (arith, b)

  pub place_inside : (listed : List ℕ) (xs : List X) (i d : ℕ) → listed ≡ places 0 xs → i < length listed → get_or listed i d < length xs
  place_inside listed xs i d is within =
      subst (λ l. get_or l i d < length xs) (sym is) (place_within xs i d (subst (λ l. i < length l) is within))

  pub low : (n : ℕ) (xs : List X) (k : ℕ) → k < n → among (places n xs) k ≡ false
  low n [] k less = refl
  low n (x ∷ xs) k less = by (test x) (low (suc n) xs k (omega (arith, less)))
    where
      by : (b : Bool) → among (places (suc n) xs) k ≡ false → among (cond b (n ∷ places (suc n) xs) (places (suc n) xs)) k ≡ false
      by true rest = or_false (nat_eq n k) (among (places (suc n) xs) k) (differs_back n k less) rest
      by false rest = rest

  -- a place is there where its element passes
  among_from : (n : ℕ) (xs : List X) (k : ℕ) (d : X) → k < length xs → among (places n xs) (n + k) ≡ test (get_or xs k d)
  among_from n [] k d within = absurd (omega (arith, within))
  among_from n (x ∷ xs) zero d within = by (test x)
    where
      by : (b : Bool) → among (cond b (n ∷ places (suc n) xs) (places (suc n) xs)) (n + 0) ≡ b
      by true = ap (λ b. b || among (places (suc n) xs) (n + 0)) (same_nat n (n + 0) (omega arith))
      by false = low (suc n) xs (n + 0) (omega arith)
  among_from n (x ∷ xs) (suc k) d within =
      let more : n + suc k ≡ suc n + k = omega arith in
      by (test x) (ap (λ m. among (places (suc n) xs) m) more ∙ among_from (suc n) xs k d (omega (arith, within)))
    where
      by : (b : Bool) → among (places (suc n) xs) (n + suc k) ≡ test (get_or xs k d)
          → among (cond b (n ∷ places (suc n) xs) (places (suc n) xs)) (n + suc k) ≡ test (get_or xs k d)
      by true rest = ap (λ b. b || among (places (suc n) xs) (n + suc k)) (differs n (n + suc k) (omega arith)) ∙ rest
      by false rest = rest

  pub among_is : (xs : List X) (k : ℕ) (d : X) → k < length xs → among (places 0 xs) k ≡ test (get_or xs k d)
  among_is xs k d within =
      let same : k ≡ 0 + k = omega arith in ap (λ m. among (places 0 xs) m) same ∙ among_from 0 xs k d within

  -- none is there twice
  once_from : (n : ℕ) (xs : List X) (i d : ℕ) → i < length (places n xs)
      → among (take i (places n xs)) (get_or (places n xs) i d) ≡ false
  once_from n [] i d within = absurd (omega (arith, within))
  once_from n (x ∷ xs) i d within =
      by (test x) i within (λ j inside. once_from (suc n) xs j d inside) (λ j inside. (bounds (suc n) xs j d inside).0)
    where
      by : (b : Bool) (i : ℕ) → i < length (cond b (n ∷ places (suc n) xs) (places (suc n) xs))
          → ((j : ℕ) → j < length (places (suc n) xs)
          → among (take j (places (suc n) xs)) (get_or (places (suc n) xs) j d) ≡ false)
          → ((j : ℕ) → j < length (places (suc n) xs) → suc n ≤ get_or (places (suc n) xs) j d)
          → among (take i (cond b (n ∷ places (suc n) xs) (places (suc n) xs)))
          (get_or (cond b (n ∷ places (suc n) xs) (places (suc n) xs)) i d) ≡ false
      by true zero inside rest high = refl
      by true (suc i) inside rest high =
          let at = get_or (places (suc n) xs) i d in
          let less : n < at = let h = high i (omega (arith, inside)) in omega (arith, h) in
          or_false (nat_eq n at) (among (take i (places (suc n) xs)) at) (differs n at less) (rest i (omega (arith, inside)))
      by false i inside rest high = rest i inside

  pub once : (xs : List X) (i d : ℕ) → i < length (places 0 xs) → among (take i (places 0 xs)) (get_or (places 0 xs) i d) ≡ false
  once xs i d within = once_from 0 xs i d within

  -- ---- one more, one fewer

  pub places_push : (n : ℕ) (xs : List X) (x : X)
      → places n (xs ++ x ∷ []) ≡ places n xs ++ cond (test x) ((n + length xs) ∷ []) []
  places_push n [] x = let here : n ≡ n + 0 = omega arith in ap (λ m. cond (test x) (m ∷ []) []) here
  places_push n (y ∷ xs) x =
      let more : suc n + length xs ≡ n + length (y ∷ xs) = omega arith in
      by (test y) (places_push (suc n) xs x ∙ ap (λ m. places (suc n) xs ++ cond (test x) (m ∷ []) []) more)
    where
      by : (b : Bool) → places (suc n) (xs ++ x ∷ []) ≡ places (suc n) xs ++ cond (test x) ((n + length (y ∷ xs)) ∷ []) []
          → cond b (n ∷ places (suc n) (xs ++ x ∷ [])) (places (suc n) (xs ++ x ∷ []))
          ≡ cond b (n ∷ places (suc n) xs) (places (suc n) xs) ++ cond (test x) ((n + length (y ∷ xs)) ∷ []) []
      by true rest = ap (λ l. n ∷ l) rest
      by false rest = rest

  kept : (place e e_now : ℕ) (es : List ℕ) → nat_eq e place ≡ false → lowered place e ≡ e_now
      → without place (e ∷ es) ≡ e_now ∷ without place es
  kept place e e_now es other is =
      ap (λ b. map (lowered place) (cond (not b) (e ∷ filter (λ o. not (nat_eq o place)) es) (filter (λ o. not (nat_eq o place)) es))) other
      ∙ ap (λ m. m ∷ without place es) is

  gone : (place e : ℕ) (es : List ℕ) → nat_eq e place ≡ true → without place (e ∷ es) ≡ without place es
  gone place e es same =
      ap (λ b. map (lowered place) (cond (not b) (e ∷ filter (λ o. not (nat_eq o place)) es) (filter (λ o. not (nat_eq o place)) es))) same

  shifted : (place n : ℕ) (xs : List X) → place ≤ n → without place (places (suc n) xs) ≡ places n xs
  shifted place n [] less = refl
  shifted place n (x ∷ xs) less = by (test x) (shifted place (suc n) xs (omega (arith, less)))
    where
      by : (b : Bool) → without place (places (suc (suc n)) xs) ≡ places (suc n) xs
          → without place (cond b (suc n ∷ places (suc (suc n)) xs) (places (suc (suc n)) xs)) ≡ cond b (n ∷ places (suc n) xs) (places (suc n) xs)
      by true rest =
          kept place (suc n) n (places (suc (suc n)) xs) (differs_back (suc n) place (omega (arith, less))) (lowered_above place n less)
          ∙ ap (λ l. n ∷ l) rest
      by false rest = rest

  places_less : (n : ℕ) (xs : List X) (k : ℕ) → without (n + k) (places n xs) ≡ places n (remove xs k)
  places_less n [] zero = refl
  places_less n [] (suc k) = refl
  places_less n (x ∷ xs) zero =
      let same : n + 0 ≡ n = omega arith in
      ap (λ m. without m (places n (x ∷ xs))) same ∙ by (test x)
    where
      by : (b : Bool) → without n (cond b (n ∷ places (suc n) xs) (places (suc n) xs)) ≡ places n xs
      by true = gone n n (places (suc n) xs) (same_nat n n refl) ∙ shifted n n xs (omega arith)
      by false = shifted n n xs (omega arith)
  places_less n (x ∷ xs) (suc k) =
      let more : n + suc k ≡ suc n + k = omega arith in
      by (test x) (ap (λ m. without m (places (suc n) xs)) more ∙ places_less (suc n) xs k)
    where
      by : (b : Bool) → without (n + suc k) (places (suc n) xs) ≡ places (suc n) (remove xs k)
          → without (n + suc k) (cond b (n ∷ places (suc n) xs) (places (suc n) xs))
          ≡ cond b (n ∷ places (suc n) (remove xs k)) (places (suc n) (remove xs k))
      by true rest =
          kept (n + suc k) n n (places (suc n) xs) (differs n (n + suc k) (omega arith)) (lowered_below (n + suc k) n (omega arith))
          ∙ ap (λ l. n ∷ l) rest
      by false rest = rest

  pub places_removed : (xs : List X) (k : ℕ) → without k (places 0 xs) ≡ places 0 (remove xs k)
  places_removed xs k = let same : k ≡ 0 + k = omega arith in ap (λ m. without m (places 0 xs)) same ∙ places_less 0 xs k

-- ---- what is done at places, one after another

-- at these places the elements changed so, the others are as before
pub record AreDone {X : Type 0} (R : X → X → Type 0) (places : List ℕ) (olds news : List X) : Type 0 where
  pub long : length news ≡ length olds
  pub done : (k : ℕ) (d : X) → k < length olds → among places k ≡ true → R (get_or olds k d) (get_or news k d)
  pub to_do : (k : ℕ) (d : X) → k < length olds → among places k ≡ false → get_or news k d ≡ get_or olds k d

module _ {X : Type 0} (R : X → X → Type 0) where
  pub none_done : (olds : List X) → AreDone R [] olds olds
  none_done olds = record { long = refl; done = λ k d within is. absurd (true≢false (sym is)); to_do = λ k d within is. refl }

  one_done : (places : List ℕ) (olds news : List X) (place : ℕ) (one new : X) → AreDone R places olds news → place < length news
      → among places place ≡ false → R (get_or news place one) new → AreDone R (places ++ place ∷ []) olds (set news place new)
  one_done places olds news place one new are within other holds = record {
    long = length-set news place new ∙ are.long;
    done = λ k d inside is. by k d inside (nat_eq place k) refl (list_any-append (λ p. nat_eq p k) places (place ∷ [])) is;
    to_do = λ k d inside is. rest k d inside (nat_eq place k) refl (list_any-append (λ p. nat_eq p k) places (place ∷ [])) is;
  }
    where
      by : (k : ℕ) (d : X) → k < length olds → (b : Bool) → nat_eq place k ≡ b
          → among (places ++ place ∷ []) k ≡ (among places k || (nat_eq place k || false))
          → among (places ++ place ∷ []) k ≡ true
          → R (get_or olds k d) (get_or (set news place new) k d)
      by k d inside true same parts is =
          let at : place ≡ k = eqb-true place k same in
          let is_new : new ≡ get_or (set news place new) k d =
          sym (get_or-set_same news place new d within) ∙ ap (λ j. get_or (set news place new) j d) at in
          let is_old : get_or news place one ≡ get_or olds k d =
          get_or_default news place one d within ∙ (are.to_do place d (omega (arith, within, are.long)) other ∙ ap (λ j. get_or olds j d) at) in
          subst (λ x. R x (get_or (set news place new) k d)) is_old (subst (R (get_or news place one)) is_new holds)
      by k d inside false apart parts is =
          let before : among places k ≡ true = either (among places k) (nat_eq place k) apart (sym parts ∙ is) in
          let different : k ≢ place = apart_of place k apart in
          subst (R (get_or olds k d)) (sym (get_or-set_other news place k new d different)) (are.done k d inside before)
        where
          either : (a b : Bool) → b ≡ false → (a || (b || false)) ≡ true → a ≡ true
          either true b h g = refl
          either false b h g = sym (ap (λ c. c || false) h) ∙ g

          apart_of : (place k : ℕ) → nat_eq place k ≡ false → k ≢ place
          apart_of place k apart = λ same. grind (arith, nat_tests, apart, same)

      rest : (k : ℕ) (d : X) → k < length olds → (b : Bool) → nat_eq place k ≡ b
          → among (places ++ place ∷ []) k ≡ (among places k || (nat_eq place k || false))
          → among (places ++ place ∷ []) k ≡ false
          → get_or (set news place new) k d ≡ get_or olds k d
      rest k d inside true same parts is = absurd (true≢false (sym (parts ∙ third (among places k) (nat_eq place k) same) ∙ is))
        where
          third : (a b : Bool) → b ≡ true → (a || (b || false)) ≡ true
          third true b h = refl
          third false b h = ap (λ c. c || false) h
      rest k d inside false apart parts is =
          let before : among places k ≡ false = first_false (among places k) (nat_eq place k || false) (sym parts ∙ is) in
          let different : k ≢ place = λ same. grind (arith, nat_tests, apart, same) in
          get_or-set_other news place k new d different ∙ are.to_do k d inside before
        where
          first_false : (a b : Bool) → (a || b) ≡ false → a ≡ false
          first_false true b h = h
          first_false false b h = refl

  -- ---- the place of number i

  module _ (test : X → Bool) (places : List ℕ) (olds news : List X) (i d : ℕ) (is : places ≡ places_from test 0 olds)
      (within : i < length places) (are : AreDone R (take i places) olds news) where
    -- it is within
    pub place_there : get_or places i d < length news
    place_there = let inside = place_inside test places olds i d is within in omega (arith, inside, are.long)

    left_so_far : among (take i places) (get_or places i d) ≡ false
    left_so_far = subst (λ l. among (take i l) (get_or l i d) ≡ false) (sym is) (once test olds i d (subst (λ l. i < length l) is within))

    -- what holds of all still holds there
    pub holds_there : (P : X → Type 0) (e : X) → All P olds → P (get_or news (get_or places i d) e)
    holds_there P e all =
        let inside = place_inside test places olds i d is within in
        subst P (sym (are.to_do (get_or places i d) e inside left_so_far)) (all (get_or places i d) e inside)

    -- and it is then done there
    pub more_done : (e new : X) → R (get_or news (get_or places i d) e) new
        → AreDone R (take (i + 1) places) olds (set news (get_or places i d) new)
    more_done e new holds =
        subst (λ l. AreDone R l olds (set news (get_or places i d) new)) (sym (take_more places i d within))
        (one_done (take i places) olds news (get_or places i d) e new are place_there left_so_far holds)

  pub all_done : (test : X → Bool) (places : List ℕ) (olds news : List X) (i : ℕ) → places ≡ places_from test 0 olds → length places ≤ i
      → AreDone R (take i places) olds news → AreChanged test R olds news
  all_done test places olds news i is end are =
      let all : take i places ≡ places_from test 0 olds = take_all i places end ∙ is in
      record {
        long = are.long;
        there = λ k d within passes. are.done k d within (ap (λ l. among l k) all ∙ (among_is test olds k d within ∙ passes));
        elsewhere = λ k d within fails. are.to_do k d within (ap (λ l. among l k) all ∙ (among_is test olds k d within ∙ fails));
      }

-- ---- what is done to each element, one after another

pub more_mapped : {X : Type 0} (f : X → X) (xs : List X) (i : ℕ) (x new : X) → i < length xs
    → x ≡ get_or (map f (take i xs) ++ drop i xs) i x → new ≡ f x
    → set (map f (take i xs) ++ drop i xs) i new ≡ map f (take (i + 1) xs) ++ drop (i + 1) xs
more_mapped {X} f xs i x new within is made =
    subst (λ n. set (map f (take i xs) ++ drop i xs) i new ≡ map f (take n xs) ++ drop n xs) (sym (add-one i)) (by xs i within is)
  where
    by : (xs : List X) (i : ℕ) → i < length xs → x ≡ get_or (map f (take i xs) ++ drop i xs) i x
        → set (map f (take i xs) ++ drop i xs) i new ≡ map f (take (suc i) xs) ++ drop (suc i) xs
    by [] i within is = absurd (omega (arith, within))
    by (y ∷ ys) zero within is = ap (λ z. z ∷ ys) (made ∙ ap f is)
    by (y ∷ ys) (suc i) within is = ap (λ zs. f y ∷ zs) (by ys i (omega (arith, within)) is)

-- what stands there is one, by whatever default it is read
pub same_mapped : {X : Type 0} (f : X → X) (xs : List X) (i : ℕ) (x y : X) → i < length xs
    → x ≡ get_or (map f (take i xs) ++ drop i xs) i x → y ≡ get_or (map f (take i xs) ++ drop i xs) i y → x ≡ y
same_mapped f [] i x y within one other = absurd (omega (arith, within))
same_mapped f (z ∷ xs) zero x y within one other = one ∙ sym other
same_mapped f (z ∷ xs) (suc i) x y within one other = same_mapped f xs i x y (omega (arith, within)) one other

pub all_mapped : {X : Type 0} (f : X → X) (xs : List X) (i : ℕ) → length xs ≤ i → map f (take i xs) ++ drop i xs ≡ map f xs
all_mapped f xs i end = (λ k. map f (take_all i xs end k) ++ drop_all i xs end k) ∙ append-nil (map f xs)
