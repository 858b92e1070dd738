-- `active` and `closes_at` search among finitely many windows: here is what they say of all windows.
use Rattle.std.specs.Prelude.{◌≡◌, ℕ, zero, suc, refl, ◌+◌, ◌<◌, ◌≤◌, Bool, true, false, cond, ◌||◌, ◌==◌, Option, None, Some}
use Rattle.std.specs.List.{find, list_any, range_with_len}
use Rattle.std.specs.Bool.{Decides}
use Rattle.std.proofs.Common.{arith, ap, inl, inr}
use Rattle.std.proofs.lemmas.Bool.{cases_lt}
use Rattle.std.proofs.Math.Nat.{le-mul_of_pos_right}
use Rattle.std.proofs.lemmas.Grind.{common_steps}
use Rattle.std.proofs.lemmas.Bool.Decides.{nat_tests}
use Rattle.rsp_spec.specs.Windows.{Shape, opening, closing, contains, active_window, closes_at}
use Rattle.rsp_spec.specs.Relations.{IsActive}

-- each window opens 1 ms or more after the one before
opens_later : (w : Shape) (k : ℕ) → 1 ≤ w.slide → k ≤ opening w k
opens_later w k slide = omega (arith, le-mul_of_pos_right k slide)

-- of the numbers from a to before b: `found` is the least that passes, or none passes
abbrev IsLeastIn : (ℕ → Bool) → ℕ → ℕ → Option ℕ → Type 0
IsLeastIn p a b None = (j : ℕ) → a ≤ j → j < b → p j ≡ false
IsLeastIn p a b (Some k) = (p k ≡ true) × ((j : ℕ) → a ≤ j → j < k → p j ≡ false)

least_with_first : (p : ℕ → Bool) (a b : ℕ) (first : Bool) (found : Option ℕ) → p a ≡ first
    → IsLeastIn p (a + 1) b found → IsLeastIn p a b (cond first (Some a) found)
least_with_first p a b true found is later = (is, λ j low high. grind arith)
least_with_first p a b false None is later = λ j low high. grind (arith, later j)
least_with_first p a b false (Some k) is later = (later.0, λ j low high. grind (arith, later.1 j))

found_is_least : (p : ℕ → Bool) (a n b : ℕ) → a + n ≡ b → IsLeastIn p a b (find p (range_with_len a n))
found_is_least p a zero b end = λ j low high. grind arith
found_is_least p a (suc n) b end =
    least_with_first p a b (p a) (find p (range_with_len (a + 1) n)) refl (found_is_least p (a + 1) n b (omega (arith, end)))

-- a window numbered t or higher opens at t or later
pub contains_none_from : (w : Shape) (k t : ℕ) → 1 ≤ w.slide → t ≤ k → contains w k t ≡ false
contains_none_from w k t slide late = grind (arith, nat_tests, opens_later w k slide)

least_of_all : (w : Shape) (t : ℕ) (found : Option ℕ) → 1 ≤ w.slide → IsLeastIn (λ k. contains w k t) 0 t found
    → IsActive w t found
least_of_all w t None slide none = λ k. elim (cases_lt k t) [
  | inl early ↦ none k (omega arith) early
  | inr late ↦ contains_none_from w k t slide late
]
least_of_all w t (Some least) slide is = (is.0, λ k below. is.1 k (omega arith) below)

-- the search meets the relation
pub is_active : (w : Shape) (t : ℕ) → 1 ≤ w.slide → IsActive w t (active_window w t)
is_active w t slide = least_of_all w t (active_window w t) slide (found_is_least (λ k. contains w k t) 0 t t (omega arith))

-- no two answers meet the relation
same_active : (w : Shape) (t : ℕ) (r s : Option ℕ) → IsActive w t r → IsActive w t s → r ≡ s
same_active w t None None r s = refl
same_active w t None (Some k) r s = absurd (grind (arith, r k, s.0))
same_active w t (Some k) None r s = absurd (grind (arith, s k, r.0))
same_active w t (Some k) (Some j) r s =
    let same : k ≡ j = grind (arith, r.0, s.0, r.1 j, s.1 k) in ap (λ n. Some n) same

-- so it gives what meets the relation
pub active_is : (w : Shape) (t : ℕ) (r : Option ℕ) → 1 ≤ w.slide → IsActive w t r → active_window w t ≡ r
active_is w t r slide is = same_active w t (active_window w t) r (is_active w t slide) is

pub any_at : (p : ℕ → Bool) (a n k : ℕ) → a ≤ k → k < a + n → p k ≡ true → list_any p (range_with_len a n) ≡ true
any_at p a zero k low high passes = grind arith
any_at p a (suc n) k low high passes = grind (arith, common_steps, any_at p (a + 1) n k)

any_by_cases : (p : ℕ → Bool) (a : ℕ) (here there : Bool) → p a ≡ here → (there ≡ true → (k : ℕ) × (p k ≡ true))
    → (here || there) ≡ true → (k : ℕ) × (p k ≡ true)
any_by_cases p a true there is later some = (a, is)
any_by_cases p a false there is later some = later some

pub any_from : (p : ℕ → Bool) (a n : ℕ) → list_any p (range_with_len a n) ≡ true → (k : ℕ) × (p k ≡ true)
any_from p a zero some = absurd (grind arith)
any_from p a (suc n) some =
    any_by_cases p a (p a) (list_any p (range_with_len (a + 1) n)) refl (any_from p (a + 1) n) some

-- some window of all closes at t
pub closes_at_is : (w : Shape) (t : ℕ) → 1 ≤ w.slide → Decides (closes_at w t) ((k : ℕ) × (closing w k ≡ t))
closes_at_is w t slide = (
  λ some. let found = any_from (λ k. closing w k == t) 0 (t + 1) some in (found.0, grind (arith, nat_tests, found.1)),
  λ (k, is). any_at (λ j. closing w j == t) 0 (t + 1) k (omega arith) (omega (arith, opens_later w k slide, is)) (grind (arith, nat_tests, is)),
)
