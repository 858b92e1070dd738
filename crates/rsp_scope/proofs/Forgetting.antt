-- Times that are in no content any more.
use Rattle.std.proofs.Common.{◌≡◌, ℕ, zero, suc, ◌+◌, ◌-◌, ◌*◌, ◌<◌, ◌≤◌, Bool, true, false, ◌||◌, cond, nat_le, nat_lt, List, [], ◌∷◌, drop, filter, slice_index_or, inl, inr, refl, sym, ap, ◌∙◌, arith, length}
use Rattle.std.specs.List.Sorted.{IsNonDecreasing}
use Rattle.std.proofs.Math.Nat.{mul-le-mul_right}
use Rattle.std.proofs.lemmas.Bool.{cases_lt}
use Rattle.std.proofs.lemmas.Bool.Decides.{nat_tests}
use Rattle.rsp_spec.specs.Windows.{Shape, closing, in_content, opening}
use Rattle.rsp_spec.proofs.ContentLaws.{in_content_is}
use Rattle.rsp_scope.proofs.Endings.{filter-whole}

opens_no_later : (w : Shape) (k j : ℕ) → k ≤ j → opening w k ≤ opening w j
opens_no_later w k j before = omega (arith, mul-le-mul_right w.slide before)

-- up to the opening of the first window that closes at s or later: in no content from s on
pub not_in_content : (w : Shape) (s first : ℕ) → 1 ≤ w.slide → ((k : ℕ) → k < first → closing w k < s)
    → (t time : ℕ) → s ≤ t → time ≤ opening w first → in_content w t time ≡ false
not_in_content w s first slide closed t time after early = by (in_content w t time) refl
  where
    by : (b : Bool) → in_content w t time ≡ b → b ≡ false
    by false is = refl
    by true is =
        let needed = ((in_content_is w t time slide).0 is).1 in
        elim (cases_lt needed.number first) [
          | inl before ↦ absurd (omega (arith, closed needed.number before, needed.late, after))
          | inr late ↦ absurd (grind (arith, nat_tests, opens_no_later w first needed.number late, needed.inside, early))
        ]

-- what one test lets go, another doesn't pass either
filter-past : (p kept : ℕ → Bool) → ((x : ℕ) → kept x ≡ false → p x ≡ false) → (xs : List ℕ) → filter p (filter kept xs) ≡ filter p xs
filter-past p kept gone [] = refl
filter-past p kept gone (x ∷ xs) = by (kept x) refl (filter-past p kept gone xs)
  where
    by : (b : Bool) → kept x ≡ b → filter p (filter kept xs) ≡ filter p xs
        → filter p (cond b (x ∷ filter kept xs) (filter kept xs)) ≡ cond (p x) (x ∷ filter p xs) (filter p xs)
    by true is rest = ap (λ l. cond (p x) (x ∷ l) l) rest
    by false is rest = rest ∙ sym (ap (λ b. cond b (x ∷ filter p xs) (filter p xs)) (gone x is))

pub forgotten : (w : Shape) (from s first low : ℕ) (times : List ℕ) → 1 ≤ w.slide → s + 1 ≡ from → low ≡ opening w first
    → ((k : ℕ) → k < first → closing w k < s) → (t : ℕ) → from ≤ t
    → filter (λ time. in_content w t time || in_content w (t - 1) time) (filter (λ time. nat_lt low time) times)
    ≡ filter (λ time. in_content w t time || in_content w (t - 1) time) times
forgotten w from s first low times slide next is closed t after =
    filter-past (λ time. in_content w t time || in_content w (t - 1) time) (λ time. nat_lt low time)
    (λ time gone.
    let early : time ≤ opening w first = grind (arith, nat_tests, gone, is) in
    let now = not_in_content w s first slide closed t time (omega (arith, next, after)) early in
    let before = not_in_content w s first slide closed (t - 1) time (omega (arith, next, after)) early in
    (λ i. now i || before i)) times

-- of sorted times those above a bound stand behind the others
pub above-last : (low : ℕ) (times : List ℕ) → IsNonDecreasing times → (n : ℕ) × (filter (λ time. nat_lt low time) times ≡ drop n times)
above-last low [] sorted = (0, refl)
above-last low (x ∷ times) sorted =
    by (nat_lt low x) refl (above-last low times (λ i j d before below. sorted (suc i) (suc j) d (omega (arith, before)) (omega (arith, below))))
  where
    by : (b : Bool) → nat_lt low x ≡ b → (n : ℕ) × (filter (λ time. nat_lt low time) times ≡ drop n times)
        → (n : ℕ) × (filter (λ time. nat_lt low time) (x ∷ times) ≡ drop n (x ∷ times))
    by true is rest = (
      0,
      filter-whole (λ time. nat_lt low time) (x ∷ times) (λ k d below.
          let least : x ≤ slice_index_or (x ∷ times) k d = sorted 0 k d (omega arith) below in
          grind (arith, nat_tests, least, is)),
    )
    by false is (n, rest) = (suc n, ap (λ b. cond b (x ∷ filter (λ time. nat_lt low time) times) (filter (λ time. nat_lt low time) times)) is ∙ rest)

none-up-to : (low : ℕ) (xs : List ℕ) → ((k d : ℕ) → k < length xs → low < slice_index_or xs k d) → length (filter (λ x. nat_le x low) xs) ≡ 0
none-up-to low [] above = refl
none-up-to low (x ∷ xs) above =
    let high : low < x = above 0 x (omega arith) in
    let past : nat_le x low ≡ false = grind (arith, nat_tests, high) in
    ap (λ b. length (cond b (x ∷ filter (λ x. nat_le x low) xs) (filter (λ x. nat_le x low) xs))) past
    ∙ none-up-to low xs (λ k d below. above (suc k) d (omega (arith, below)))

-- those up to a bound stand in front of one above it
pub few-up-to : (low i d : ℕ) (xs : List ℕ) → IsNonDecreasing xs → i < length xs → low < slice_index_or xs i d → length (filter (λ x. nat_le x low) xs) ≤ i
few-up-to low i d [] sorted below high = absurd (omega (arith, below))
few-up-to low zero d (x ∷ xs) sorted below high =
    let none = none-up-to low (x ∷ xs) (λ k e inside. let least : x ≤ slice_index_or (x ∷ xs) k e = sorted 0 k e (omega arith) inside in omega (arith, least, high)) in
    omega (arith, none)
few-up-to low (suc i) d (x ∷ xs) sorted below high =
    by (nat_le x low) (few-up-to low i d xs (λ k j e before inside. sorted (suc k) (suc j) e (omega (arith, before)) (omega (arith, inside))) (omega (arith, below)) high)
  where
    by : (b : Bool) → length (filter (λ x. nat_le x low) xs) ≤ i → length (cond b (x ∷ filter (λ x. nat_le x low) xs) (filter (λ x. nat_le x low) xs)) ≤ suc i
    by true rest = omega (arith, rest)
    by false rest = omega (arith, rest)

fewer : (e low : ℕ) (xs : List ℕ) → e ≤ low → length (filter (λ x. nat_le x e) xs) ≤ length (filter (λ x. nat_le x low) xs)
fewer e low [] before = omega arith
fewer e low (x ∷ xs) before = by (nat_le x e) refl (nat_le x low) refl (fewer e low xs before)
  where
    by : (a : Bool) → nat_le x e ≡ a → (b : Bool) → nat_le x low ≡ b → length (filter (λ x. nat_le x e) xs) ≤ length (filter (λ x. nat_le x low) xs)
        → length (cond a (x ∷ filter (λ x. nat_le x e) xs) (filter (λ x. nat_le x e) xs)) ≤ length (cond b (x ∷ filter (λ x. nat_le x low) xs) (filter (λ x. nat_le x low) xs))
    by true is true isn't rest = omega (arith, rest)
    by true is false isn't rest = absurd (grind (arith, nat_tests, is, isn't, before))
    by false is true isn't rest = omega (arith, rest)
    by false is false isn't rest = rest

none-left : (e low : ℕ) (xs : List ℕ) → e ≤ low → length (filter (λ x. nat_le x e) (filter (λ x. nat_lt low x) xs)) ≡ 0
none-left e low [] before = refl
none-left e low (x ∷ xs) before = by (nat_lt low x) refl (none-left e low xs before)
  where
    by : (b : Bool) → nat_lt low x ≡ b → length (filter (λ x. nat_le x e) (filter (λ x. nat_lt low x) xs)) ≡ 0
        → length (filter (λ x. nat_le x e) (cond b (x ∷ filter (λ x. nat_lt low x) xs) (filter (λ x. nat_lt low x) xs))) ≡ 0
    by true is rest =
        let past : nat_le x e ≡ false = grind (arith, nat_tests, is, before) in
        ap (λ b. length (cond b (x ∷ filter (λ x. nat_le x e) (filter (λ x. nat_lt low x) xs)) (filter (λ x. nat_le x e) (filter (λ x. nat_lt low x) xs)))) past ∙ rest
    by false is rest = rest

-- a window before which all have closed opens no later than the first that is to close
opens_by : (w : Shape) (from s first low k : ℕ) → s + 1 ≡ from → low ≡ opening w first → s ≤ closing w first → ((j : ℕ) → j < k → closing w j + 1 < from) → opening w k ≤ low
opens_by w from s first low k next is reaches closed = elim (cases_lt first k) [
  | inl before ↦ absurd (omega (arith, closed first before, reaches, next))
  | inr late ↦ omega (arith, opens_no_later w k first late, is)
]

pub few-kept : (w : Shape) (from s first low k : ℕ) (times : List ℕ) → s + 1 ≡ from → low ≡ opening w first → s ≤ closing w first → ((j : ℕ) → j < k → closing w j + 1 < from)
    → 2 * length (filter (λ time. nat_le time low) times) ≤ length times
    → 2 * length (filter (λ time. nat_le time (opening w k)) times) ≤ length times
few-kept w from s first low k times next is reaches closed half =
    omega (arith, fewer (opening w k) low times (opens_by w from s first low k next is reaches closed), half)

pub few-left : (w : Shape) (from s first low k : ℕ) (times left : List ℕ) → s + 1 ≡ from → low ≡ opening w first → s ≤ closing w first → ((j : ℕ) → j < k → closing w j + 1 < from)
    → left ≡ filter (λ time. nat_lt low time) times
    → 2 * length (filter (λ time. nat_le time (opening w k)) left) ≤ length left
few-left w from s first low k times left next is reaches closed all =
    let none = ap (λ l. length (filter (λ time. nat_le time (opening w k)) l)) all ∙ none-left (opening w k) low times (opens_by w from s first low k next is reaches closed) in
    omega (arith, none)
