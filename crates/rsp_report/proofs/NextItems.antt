-- From item to item: the next instant of a content.
use Rattle.std.specs.Prelude.{◌≡◌, ℕ, ◌+◌, ◌-◌, ◌<◌, ◌≤◌, min, max, Option, None, Some, List, true, ◌⊎◌}
use Rattle.std.specs.List.{Contains, list_any}
use Rattle.std.proofs.Common.{arith, inl, inr, sym}
use Rattle.std.proofs.lemmas.Bool.{cases_lt}
use Rattle.std.proofs.lemmas.Bool.Decides.{nat_tests}
use Rattle.rsp_spec.specs.Windows.{Shape, opening, closing, in_content}
use Rattle.rsp_spec.specs.Relations.{IsNeeded, IsLastNeeded}
use Rattle.rsp_spec.specs.Instants.{IsLeastIn}
use Rattle.rsp_spec.proofs.InstantLaws.{least_alike}
use Rattle.rsp_report.specs.Leaps.{differ}
use Rattle.rsp_report.specs.Searches.{IsFirstAfter, IsFirstBehind, IsFirstNeeded, Enters, Leaves, sooner}
use Rattle.rsp_report.proofs.Searching.{behind_opening}
use Rattle.rsp_report.proofs.Membership.{IsSeen, Passing, content_is, needed_earlier, needed_between, changes_by_entering, changes_if_left, turn_of}

pub behind_from : (w : Shape) (times : List ℕ) (low t k : ℕ) (r : Option ℕ) → t ≤ closing w k
    → ((j : ℕ) → j < k → closing w j < t) → IsFirstAfter times (max low (opening w k)) r → IsFirstBehind w times low t r
behind_from w times low t k None reaches first none = λ time listed above needed.
    absurd (grind (arith, none time listed, behind_opening w t k time first needed, above))
behind_from w times low t k (Some x) reaches first found = (
  found.0,
  grind (arith, found.1),
  λ early. record { number = k; inside = grind (arith, nat_tests, found.1); late = reaches },
  λ time listed above needed. found.2 time listed (grind (arith, behind_opening w t k time first needed, above)),
)

some_time : (w : Shape) (time t : ℕ) → IsNeeded w time t → 0 < time
some_time w time t needed = grind (arith, nat_tests, needed.inside)

pub content_next : (w : Shape) (times : List ℕ) (from to x : ℕ) → 1 ≤ w.slide → IsFirstNeeded w times 0 from (Some x) → max from x ≤ to
    → IsLeastIn (λ t. list_any (in_content w t) times ≡ true) from to (Some (max from x))
content_next w times from to x slide first high = (
  omega arith,
  high,
  (content_is w times (max from x) slide).1 (record { time = x; listed = first.0; passes = (omega arith, seen (cases_lt from x)) }),
  λ t late some. no_sooner t late ((content_is w times t slide).0 some),
)
  where
    seen : ((from < x) ⊎ (x ≤ from)) → IsNeeded w x (max from x)
    seen (inl before) = record { number = first.2.number; inside = first.2.inside; late = grind (arith, nat_tests, first.2.inside, before) }
    seen (inr after) = record { number = first.2.number; inside = first.2.inside; late = omega (arith, first.2.late, after) }

    no_sooner : (t : ℕ) → from ≤ t → Passing times (IsSeen w t) → max from x ≤ t
    no_sooner t late found = omega (
      arith,
      late,
      found.passes.0,
      first.3 found.time found.listed (some_time w found.time t found.passes.1) (needed_earlier w found.time t from late found.passes.1),
    )

pub no_content_next : (w : Shape) (times : List ℕ) (from to x : ℕ) → 1 ≤ w.slide → IsFirstNeeded w times 0 from (Some x) → to < max from x
    → IsLeastIn (λ t. list_any (in_content w t) times ≡ true) from to None
no_content_next w times from to x slide first beyond = λ t late early some.
    let found = (content_is w times t slide).0 some in
    omega (
      arith,
      late,
      early,
      beyond,
      found.passes.0,
      first.3 found.time found.listed (some_time w found.time t found.passes.1) (needed_earlier w found.time t from late found.passes.1),
    )

pub no_content : (w : Shape) (times : List ℕ) (from to : ℕ) → 1 ≤ w.slide → IsFirstNeeded w times 0 from None
    → IsLeastIn (λ t. list_any (in_content w t) times ≡ true) from to None
no_content w times from to slide none = λ t late early some.
    let found = (content_is w times t slide).0 some in
    none found.time found.listed (some_time w found.time t found.passes.1) (needed_earlier w found.time t from late found.passes.1)

pub first_from_behind : (w : Shape) (times : List ℕ) (low t reach x : ℕ) → IsFirstBehind w times low reach (Some x)
    → ((time : ℕ) → Contains times time → low < time → IsNeeded w time t → IsNeeded w time reach) → IsNeeded w x t
    → IsFirstNeeded w times low t (Some x)
first_from_behind w times low t reach x found ahead needed =
    (found.0, found.1, needed, λ time listed above n. found.3 time listed above (ahead time listed above n))

pub none_from_behind : (w : Shape) (times : List ℕ) (low t reach : ℕ) → IsFirstBehind w times low reach None
    → ((time : ℕ) → Contains times time → low < time → IsNeeded w time t → IsNeeded w time reach)
    → IsFirstNeeded w times low t None
none_from_behind w times low t reach none ahead = λ time listed above n. none time listed above (ahead time listed above n)

needed_itself : (w : Shape) (x t : ℕ) → IsNeeded w x t → IsNeeded w x x
needed_itself w x t needed = record { number = needed.number; inside = needed.inside; late = grind (arith, nat_tests, needed.inside) }

entering_above : (w : Shape) (from t : ℕ) → from ≤ t → IsNeeded w t t → from - 1 < t
entering_above w from t late needed = omega (arith, late, some_time w t t needed)

pub entering_next : (w : Shape) (times : List ℕ) (from to x : ℕ) → IsFirstNeeded w times (from - 1) from (Some x) → x ≤ to
    → IsLeastIn (Enters w times) from to (Some x)
entering_next w times from to x first high = (
  omega (arith, first.1),
  high,
  (first.0, needed_itself w x from first.2),
  λ t late enters. first.3 t enters.0 (entering_above w from t late enters.1) (needed_earlier w t t from late enters.1),
)

pub entering_beyond : (w : Shape) (times : List ℕ) (from to x : ℕ) → IsFirstNeeded w times (from - 1) from (Some x) → to < x
    → IsLeastIn (Enters w times) from to None
entering_beyond w times from to x first beyond = λ t late early enters.
    omega (arith, beyond, early, first.3 t enters.0 (entering_above w from t late enters.1) (needed_earlier w t t from late enters.1))

pub entering_never : (w : Shape) (times : List ℕ) (from to : ℕ) → IsFirstNeeded w times (from - 1) from None
    → IsLeastIn (Enters w times) from to None
entering_never w times from to none = λ t late early enters.
    none t enters.0 (entering_above w from t late enters.1) (needed_earlier w t t from late enters.1)

leaves_after : (w : Shape) (times : List ℕ) (from x last t : ℕ) → IsFirstNeeded w times 0 (from - 1) (Some x)
    → IsLastNeeded w x (Some last) → from ≤ t → Leaves w times t → last < t
leaves_after w times from x last t first is late leaves =
    let after : x ≤ leaves.time = first.3 leaves.time leaves.listed (some_time w leaves.time (t - 1) leaves.needed)
    (needed_earlier w leaves.time (t - 1) (from - 1) (omega (arith, late)) leaves.needed) in
    elim (cases_lt last t) [
      | inl more ↦ more
      | inr less ↦ absurd (leaves.left (needed_between w x leaves.time t after (omega (arith, leaves.earlier))
          (record { number = is.0.0; inside = is.0.1; late = omega (arith, is.0.2, less) })))
    ]

pub leaving_next : (w : Shape) (times : List ℕ) (from to x last : ℕ) → IsFirstNeeded w times 0 (from - 1) (Some x)
    → IsLastNeeded w x (Some last) → last < to → IsLeastIn (Leaves w times) from to (Some (last + 1))
leaving_next w times from to x last first is high = (
  omega (arith, first.2.late, is.1 first.2.number first.2.inside),
  omega (arith, high),
  record {
    time = x;
    listed = first.0;
    earlier = grind (arith, nat_tests, is.0.1, is.0.2);
    needed = record { number = is.0.0; inside = is.0.1; late = omega (arith, is.0.2) };
    left = λ needed. omega (arith, needed.late, is.1 needed.number needed.inside);
  },
  λ t late leaves. omega (arith, leaves_after w times from x last t first is late leaves),
)

pub leaving_beyond : (w : Shape) (times : List ℕ) (from to x last : ℕ) → IsFirstNeeded w times 0 (from - 1) (Some x)
    → IsLastNeeded w x (Some last) → to ≤ last → IsLeastIn (Leaves w times) from to None
leaving_beyond w times from to x last first is beyond = λ t late early leaves.
    omega (arith, leaves_after w times from x last t first is late leaves, early, beyond)

pub leaving_never : (w : Shape) (times : List ℕ) (from to : ℕ) → IsFirstNeeded w times 0 (from - 1) None
    → IsLeastIn (Leaves w times) from to None
leaving_never w times from to none = λ t late early leaves.
    none leaves.time leaves.listed (some_time w leaves.time (t - 1) leaves.needed)
    (needed_earlier w leaves.time (t - 1) (from - 1) (omega (arith, late)) leaves.needed)

either_by : {A B C : Type 0} → (A → C) → (B → C) → (A ⊎ B) → C
either_by f g (inl a) = f a
either_by f g (inr b) = g b

pub sooner_least : (p q : ℕ → Type 0) (from to : ℕ) (a b : Option ℕ) → IsLeastIn p from to a → IsLeastIn q from to b
    → IsLeastIn (λ t. p t ⊎ q t) from to (sooner a b)
sooner_least p q from to None None a b = λ t late early holds. either_by (a t late early) (b t late early) holds
sooner_least p q from to None (Some y) a b = (
  b.0,
  b.1,
  inr b.2,
  λ t late holds. elim (cases_lt to t) [
    | inl beyond ↦ omega (arith, beyond, b.1)
    | inr early ↦ either_by (λ h. absurd (a t late early h)) (b.3 t late) holds
  ],
)
sooner_least p q from to (Some x) None a b = (
  a.0,
  a.1,
  inl a.2,
  λ t late holds. elim (cases_lt to t) [
    | inl beyond ↦ omega (arith, beyond, a.1)
    | inr early ↦ either_by (a.3 t late) (λ h. absurd (b t late early h)) holds
  ],
)
sooner_least p q from to (Some x) (Some y) a b = (
  omega (arith, a.0, b.0),
  omega (arith, a.1, b.1),
  elim (cases_lt x y) [
    | inl less ↦ let is : min x y ≡ x = omega (arith, less) in inl (rw is a.2)
    | inr more ↦ let is : min x y ≡ y = omega (arith, more) in inr (rw is b.2)
  ],
  λ t late holds. either_by (λ h. omega (arith, a.3 t late h)) (λ h. omega (arith, b.3 t late h)) holds,
)

pub change_least : (w : Shape) (times : List ℕ) (from to : ℕ) (a b : Option ℕ) → 1 ≤ w.slide → IsLeastIn (Enters w times) from to a
    → IsLeastIn (Leaves w times) from to b
    → IsLeastIn (λ t. list_any (λ time. differ (in_content w t time) (in_content w (t - 1) time)) times ≡ true) from to (sooner a b)
change_least w times from to a b slide enters leaves =
    least_alike (λ t. Enters w times t ⊎ Leaves w times t) _
    (λ t. either_by (λ e. sym (changes_by_entering w times t slide (some_time w t t e.1) e)) (λ l. changes_if_left w times t slide l))
    (λ t yes. turn_of w times t slide yes) from to (sooner a b)
    (sooner_least (Enters w times) (Leaves w times) from to a b enters leaves)
