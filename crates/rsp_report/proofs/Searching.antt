-- What one binary search says of sorted times, and of a window's content.
use Rattle.std.specs.Prelude.{◌≡◌, ℕ, ◌+◌, ◌<◌, ◌≤◌, Option, None, Some, List, length, nat_lt, slice_get, Err}
use Rattle.std.specs.List.{Contains, slice_index_or}
use Rattle.std.specs.List.Sorted.{IsNonDecreasing, IsBinarySearchResult}
use Rattle.std.specs.Ordering.{nat_cmp}
use Rattle.std.proofs.Common.{arith, inl, inr, ◌∙◌, sym, refl, Bor}
use Rattle.std.specs.Option.{is_some, IfSome, option_copied}
use Rattle.std.proofs.lemmas.List.{get_or_default}
use Rattle.std.proofs.lemmas.Option.{slice_get_cases, slice_get-get_or, slice_get_past, slice_get_read}
use Rattle.std.proofs.Math.Nat.{mul-le-mul_right}
use Rattle.std.proofs.lemmas.Bool.{cases_lt}
use Rattle.std.proofs.lemmas.Bool.Decides.{nat_tests}
use Rattle.std.proofs.lemmas.List.Elements.{Contains-get_or}
use Rattle.std.proofs.lemmas.List.Sorted.{searched}
use Rattle.rsp_spec.specs.Windows.{Shape, opening, closing}
use Rattle.rsp_spec.specs.Relations.{IsNeeded}
use Rattle.rsp_report.specs.Searches.{IsFirstAfter, IsFirstReaching}

-- the time stands at some place, whatever is taken past the end
place_of : (times : List ℕ) (time : ℕ) → Contains times time → (k : ℕ) × (k < length times) × (slice_index_or times k 0 ≡ time)
place_of times time (k, below, at) = (k, below, get_or_default times k 0 time below ∙ at)

none_after : (times : List ℕ) (low : ℕ) → ((k : ℕ) → k < length times → slice_index_or times k 0 ≤ low) → IsFirstAfter times low None
none_after times low before = λ time listed.
    let at = place_of times time listed in omega (arith, before at.0 at.1, at.2)

first_after_at : (times : List ℕ) (low place : ℕ) → IsNonDecreasing times → place < length times
    → ((k : ℕ) → k < place → slice_index_or times k 0 ≤ low) → low < slice_index_or times place 0
    → IsFirstAfter times low (Some (slice_index_or times place 0))
first_after_at times low place sorted within before after = (
  Contains-get_or times place 0 within,
  after,
  λ time listed above. let at = place_of times time listed in elim (cases_lt at.0 place) [
    | inl early ↦ absurd (omega (arith, before at.0 early, at.2, above))
    | inr late ↦ omega (arith, sorted place at.0 0 late at.1, at.2)
  ],
)

-- what `get(place).copied()` gives
pub copied_at : (times : List ℕ) (place : ℕ) (got : Option (Bor ℕ)) → is_some got ≡ nat_lt place (length times)
    → IfSome got (λ x. x.now ≡ slice_index_or times place x.now) → option_copied got ≡ slice_get times place
copied_at times place None some at = sym (slice_get_past times place (grind (arith, nat_tests, some)))
copied_at times place (Some x) some at =
    sym (slice_get_read times (length times) place x.now refl (grind (arith, nat_tests, some)) at)

-- a search for `low + 1` that finds nothing gives the place of the first time above `low`
pub after_missed : (times : List ℕ) (low place : ℕ) (r : Option ℕ) → IsNonDecreasing times
    → IsBinarySearchResult (λ y. nat_cmp y (low + 1)) times (Err place) → r ≡ slice_get times place → IsFirstAfter times low r
after_missed times low place r sorted missed is =
    let bounds = searched times (low + 1) (Err place) missed (λ i j. sorted i j 0) in
    elim (slice_get_cases times place).1 [
      | inl (x, within, at, same) ↦ rw (is ∙ slice_get-get_or times place 0 within) (first_after_at times low place sorted within (λ k early. omega (arith, bounds.1 k early)) (omega (arith, bounds.2 place (omega arith) within)))
      | inr (past, at) ↦ rw (is ∙ at) (none_after times low (λ k below. omega (arith, bounds.1 k (omega (arith, past, below)))))
    ]

opens_no_later : (w : Shape) (k j : ℕ) → k ≤ j → opening w k ≤ opening w j
opens_no_later w k j before = omega (arith, mul-le-mul_right w.slide before)

-- a window that closes at t or later isn't before the first such window, so what it contains is behind that opening
pub behind_opening : (w : Shape) (t k time : ℕ) → ((j : ℕ) → j < k → closing w j < t) → IsNeeded w time t → opening w k < time
behind_opening w t k time first needed = elim (cases_lt needed.number k) [
  | inl early ↦ absurd (omega (arith, first needed.number early, needed.late))
  | inr late ↦ grind (arith, nat_tests, opens_no_later w k needed.number late, needed.inside)
]

pub reaching_from : (w : Shape) (times : List ℕ) (t k : ℕ) (r : Option ℕ) → t ≤ closing w k
    → ((j : ℕ) → j < k → closing w j < t) → IsFirstAfter times (opening w k) r → IsFirstReaching w times t r
reaching_from w times t k None reaches first none = λ time listed needed.
    omega (arith, none time listed, behind_opening w t k time first needed)
reaching_from w times t k (Some x) reaches first found = (
  found.0,
  λ early. record { number = k; inside = grind (arith, nat_tests, found.1); late = reaches },
  λ time listed needed. found.2 time listed (behind_opening w t k time first needed),
)
