-- An item is in the content from its own time on, as long as some window that contains it is still to close.
use Rattle.std.specs.Prelude.{ℕ, ◌<◌, ◌≤◌, false, ◌&&◌, nat_lt, nat_le, Option, None, Some}
use Rattle.std.specs.Bool.{Decides}
use Rattle.std.specs.Option.{option_map_or}
use Rattle.std.proofs.Common.{arith, inl, inr}
use Rattle.std.proofs.Math.Nat.{mul-le-mul_right}
use Rattle.std.proofs.lemmas.Bool.{cases_lt}
use Rattle.std.proofs.lemmas.Bool.Decides.{nat_tests}
use Rattle.rsp_spec.specs.Windows.{Shape, opening, active_window, in_content}
use Rattle.rsp_spec.specs.Relations.{IsActive, IsNeeded}
use Rattle.rsp_spec.proofs.WindowLaws.{is_active}

opens_no_later : (w : Shape) (k j : ℕ) → k ≤ j → opening w k ≤ opening w j
opens_no_later w k j before = omega (arith, mul-le-mul_right w.slide before)

-- no window before the active one contains t, so the one that is still needed opens no earlier
opens_before_needed : (w : Shape) (t time k : ℕ) → IsActive w t (Some k) → time ≤ t → (needed : IsNeeded w time t)
    → opening w k < time
opens_before_needed w t time k is before needed = elim (cases_lt needed.number k) [
  | inl early ↦ absurd (grind (arith, nat_tests, is.1 needed.number early, needed.inside, needed.late))
  | inr late ↦ grind (arith, nat_tests, opens_no_later w k needed.number late, needed.inside)
]

content_by_active : (w : Shape) (t time : ℕ) (found : Option ℕ) → 1 ≤ w.slide → IsActive w t found
    → Decides (option_map_or (λ k. nat_lt (opening w k) time && nat_le time t) found false) ((time ≤ t) × IsNeeded w time t)
content_by_active w t time None slide none = (
  λ some. absurd (grind arith),
  λ (before, needed). absurd (grind (arith, nat_tests, none needed.number, needed.inside, needed.late)),
)
content_by_active w t time (Some k) slide is = (
  λ some. (grind (arith, nat_tests, some), record { number = k; inside = grind (arith, nat_tests, some, is.0); late = grind (arith, nat_tests, is.0) }),
  λ (before, needed). grind (arith, nat_tests, opens_before_needed w t time k is before needed),
)

-- in the content at t: not after t, and needed at t
pub in_content_is : (w : Shape) (t time : ℕ) → 1 ≤ w.slide → Decides (in_content w t time) ((time ≤ t) × IsNeeded w time t)
in_content_is w t time slide = content_by_active w t time (active_window w t) slide (is_active w t slide)
