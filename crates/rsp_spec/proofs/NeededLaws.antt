-- The next closing and what is still needed, by the searches that define them.
use Rattle.std.specs.Prelude.{◌≡◌, ℕ, ◌<◌, ◌≤◌, ◌↔◌, true, false, ◌&&◌, nat_le, Option, None, Some}
use Rattle.std.specs.Bool.{Decides}
use Rattle.std.specs.Option.{option_map_or}
use Rattle.std.proofs.Common.{arith, inl, inr, sym, true≢false, ◌∙◌}
use Rattle.std.proofs.lemmas.Bool.{cases_lt}
use Rattle.std.proofs.lemmas.Bool.Decides.{nat_tests, same_from_decides}
use Rattle.rsp_spec.specs.Instants.{IsLeastIn}
use Rattle.rsp_spec.specs.Windows.{Shape, closes_at, closing, contains, is_needed}
use Rattle.rsp_spec.specs.Relations.{IsAtMost, IsNeeded, IsNextClosing}
use Rattle.rsp_spec.proofs.Truths.{and_left, and_right}
use Rattle.rsp_spec.proofs.WindowLaws.{any_at, any_from, closes_at_is, contains_none_from}

-- the next closing is the least instant at which a window closes
pub next_is_least : (w : Shape) (from next : ℕ) → 1 ≤ w.slide → IsNextClosing w from next
    → IsLeastIn (λ t. closes_at w t ≡ true) from next (Some next)
next_is_least w from next slide is = (
  is.late,
  omega arith,
  (closes_at_is w next slide).1 (is.number, is.closes),
  λ t late closes. let found = (closes_at_is w t slide).0 closes in
      omega (arith, found.1, is.least found.0 (omega (arith, late, found.1))),
)

-- a window that contains the time opens before it
numbered_below : (w : Shape) (time k : ℕ) → 1 ≤ w.slide → contains w k time ≡ true → k < time
numbered_below w time k slide inside = elim (cases_lt k time) [
  | inl below ↦ below
  | inr late ↦ absurd (true≢false (sym inside ∙ contains_none_from w k time slide late))
]

pub is_needed_is : (w : Shape) (time from : ℕ) → 1 ≤ w.slide → Decides (is_needed w time from) (IsNeeded w time from)
is_needed_is w time from slide = (
  λ some. let found = any_from (λ k. contains w k time && nat_le from (closing w k)) 0 time some in
      record {
        number = found.0;
        inside = and_left (contains w found.0 time) (nat_le from (closing w found.0)) found.1;
        late = grind (arith, nat_tests, and_right (contains w found.0 time) (nat_le from (closing w found.0)) found.1);
      },
  λ needed. any_at (λ k. contains w k time && nat_le from (closing w k)) 0 time needed.number (omega arith)
      (omega (arith, numbered_below w time needed.number slide needed.inside))
      (rw needed.inside (grind (arith, nat_tests, needed.late))),
)

pub at_most_is : (from : ℕ) (last : Option ℕ) → Decides (option_map_or (λ e. nat_le from e) last false) (IsAtMost from last)
at_most_is from None = (λ is. absurd (true≢false (sym is)), λ none. absurd none)
at_most_is from (Some last) = (λ is. grind (arith, nat_tests, is), λ is. grind (arith, nat_tests, is))

pub needed_up_to : (w : Shape) (time : ℕ) (last : Option ℕ) → 1 ≤ w.slide
    → ((from : ℕ) → IsNeeded w time from ↔ IsAtMost from last)
    → (from : ℕ) → is_needed w time from ≡ option_map_or (λ e. nat_le from e) last false
needed_up_to w time last slide is from =
    same_from_decides _ _ (is_needed_is w time from slide)
    (λ h. (is from).1 ((at_most_is from last).0 h), λ h. (at_most_is from last).1 ((is from).0 h))
