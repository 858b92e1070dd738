-- Which items are in a content, enter it or leave it, by the windows that contain them.
use Rattle.std.specs.Prelude.{◌≡◌, ℕ, ◌-◌, ◌<◌, ◌≤◌, Bool, true, false, not, ◌&&◌, nat_le, None, Some, List, ◌⊎◌}
use Rattle.std.specs.Bool.{Decides}
use Rattle.std.specs.List.{Contains, list_any, slice_index_or}
use Rattle.std.proofs.Common.{arith, inl, inr, sym, refl, true≢false, ◌∙◌}
use Rattle.std.proofs.lemmas.Bool.{cases_lt}
use Rattle.std.proofs.lemmas.Bool.Decides.{nat_tests, same_from_decides}
use Rattle.std.proofs.lemmas.List.Folds.{Any-from_list_any, list_any-from_Any, list_any_none}
use Rattle.rsp_spec.specs.Windows.{Shape, in_content}
use Rattle.rsp_spec.specs.Relations.{IsNeeded}
use Rattle.rsp_spec.proofs.ContentLaws.{in_content_is}
use Rattle.rsp_report.specs.Leaps.{differ}
use Rattle.rsp_report.specs.Searches.{IsFirstAfter, IsFirstReaching, Leaves}

-- an item that passes, among those of a list
pub record Passing (times : List ℕ) (P : ℕ → Type 0) : Type 0 where
  pub time : ℕ
  pub listed : Contains times time
  pub passes : P time

some_passing : (test : ℕ → Bool) (P : ℕ → Type 0) → ((x : ℕ) → Decides (test x) (P x)) → (times : List ℕ)
    → Decides (list_any test times) (Passing times P)
some_passing test P each times = (
  λ some. let (k, x, below, at, is) = Any-from_list_any test times some in
      record { time = x; listed = (k, below, at); passes = (each x).0 is },
  λ found. let (k, below, at) = found.listed in
      list_any-from_Any test times (k, found.time, below, at, (each found.time).1 found.passes),
)

-- in the content at t
abbrev pub IsSeen : Shape → ℕ → ℕ → Type 0
IsSeen w t time = (time ≤ t) × IsNeeded w time t

-- what is still needed later is needed now
pub needed_earlier : (w : Shape) (time t s : ℕ) → s ≤ t → IsNeeded w time t → IsNeeded w time s
needed_earlier w time t s before needed = record { number = needed.number; inside = needed.inside; late = omega (arith, needed.late) }

needed_same : (w : Shape) (time other t : ℕ) → time ≡ other → IsNeeded w time t → IsNeeded w other t
needed_same w time other t same needed = record { number = needed.number; inside = grind (arith, nat_tests, needed.inside, same); late = needed.late }

-- an item that comes between one and t is needed as long
pub needed_between : (w : Shape) (first time t : ℕ) → first ≤ time → time ≤ t → IsNeeded w first t → IsNeeded w time t
needed_between w first time t after before needed = record {
  number = needed.number;
  inside = grind (arith, nat_tests, needed.inside, needed.late);
  late = needed.late;
}

-- the first that no needed one precedes is in the content, unless it is later than t
content_at : (w : Shape) (times : List ℕ) (t first : ℕ) → IsFirstReaching w times t (Some first)
    → Decides (nat_le first t) (Passing times (IsSeen w t))
content_at w times t first found = (
  λ early. let before : first ≤ t = grind (arith, nat_tests, early) in
      record { time = first; listed = found.0; passes = (before, found.1 before) },
  λ seen. let before : first ≤ t = omega (arith, found.2 seen.time seen.listed seen.passes.1, seen.passes.0) in grind (arith, nat_tests, before),
)

pub content_is : (w : Shape) (times : List ℕ) (t : ℕ) → 1 ≤ w.slide → Decides (list_any (in_content w t) times) (Passing times (IsSeen w t))
content_is w times t slide = some_passing (in_content w t) (IsSeen w t) (λ time. in_content_is w t time slide) times

pub has_content_at : (w : Shape) (times : List ℕ) (t first : ℕ) → 1 ≤ w.slide → IsFirstReaching w times t (Some first)
    → nat_le first t ≡ list_any (in_content w t) times
has_content_at w times t first slide found =
    same_from_decides _ _ (content_at w times t first found)
    (some_passing (in_content w t) (IsSeen w t) (λ time. in_content_is w t time slide) times)

pub has_none : (w : Shape) (times : List ℕ) (t : ℕ) → 1 ≤ w.slide → IsFirstReaching w times t None
    → false ≡ list_any (in_content w t) times
has_none w times t slide none =
    same_from_decides _ _ (λ no. absurd (true≢false (sym no)), λ (seen : Passing times (IsSeen w t)). absurd (none seen.time seen.listed seen.passes.1))
    (some_passing (in_content w t) (IsSeen w t) (λ time. in_content_is w t time slide) times)

-- no time is t where the first after the instant before isn't
pub none_listed : (times : List ℕ) (t : ℕ) (P : Type 0) → 1 ≤ t → IsFirstAfter times (t - 1) None → Decides false (Contains times t × P)
none_listed times t P later none = (λ no. absurd (true≢false (sym no)), λ (listed, p). absurd (omega (arith, none t listed)))

pub other_listed : (times : List ℕ) (t first : ℕ) (P : Type 0) → 1 ≤ t → IsFirstAfter times (t - 1) (Some first)
    → (first ≡ t → ⊥) → Decides false (Contains times t × P)
other_listed times t first P later found other = (
  λ no. absurd (true≢false (sym no)),
  λ (listed, p). absurd (other (omega (arith, found.2 t listed, found.1))),
)

pub shown_if : (w : Shape) (t : ℕ) (fresh answer : Bool) → 1 ≤ w.slide → fresh ≡ true → Decides answer (IsNeeded w t t)
    → answer ≡ (fresh && in_content w t t)
shown_if w t true answer slide is needed = same_from_decides _ _ (
  λ yes. (omega arith, needed.0 yes),
  λ seen. needed.1 seen.1,
) (in_content_is w t t slide)
shown_if w t false answer slide is needed = absurd (true≢false (sym is))

-- of those in the content before, the first is the first to leave
pub leaving_at : (w : Shape) (times : List ℕ) (t first : ℕ) (needed : Bool) → 1 ≤ t → first < t
    → IsFirstReaching w times (t - 1) (Some first) → Decides needed (IsNeeded w first t) → Decides (not needed) (Leaves w times t)
leaving_at w times t first true later early found is = (
  λ no. absurd (true≢false (sym no)),
  λ leaves. absurd (leaves.left (needed_between w first leaves.time t (found.2 leaves.time leaves.listed leaves.needed) (omega (arith, leaves.earlier)) (is.0 refl))),
)
leaving_at w times t first false later early found is = (
  λ yes. record { time = first; listed = found.0; earlier = early; needed = found.1 (omega (arith, early)); left = λ needed. true≢false (sym (is.1 needed)) },
  λ leaves. refl,
)

-- what enters at t has its time, and what leaves was in the content before
abbrev Turns : Shape → ℕ → ℕ → Type 0
Turns w t time = ((time ≡ t) × IsNeeded w t t) ⊎ ((time < t) × IsNeeded w time (t - 1) × (IsNeeded w time t → ⊥))

differs_by : (w : Shape) (t time : ℕ) (now before : Bool) → 1 ≤ t → Decides now (IsSeen w t time)
    → Decides before (IsSeen w (t - 1) time) → Decides (differ now before) (Turns w t time)
differs_by w t time true true later a b = (
  λ no. absurd (true≢false (sym no)),
  λ turns. elim turns [
    | inl (at, needed) ↦ absurd (omega (arith, (b.0 refl).0, at))
    | inr (early, needed, left) ↦ absurd (left (a.0 refl).1)
  ],
)
differs_by w t time true false later a b = (
  λ yes. elim (cases_lt time t) [
    | inl early ↦ absurd (true≢false (sym (b.1 (omega (arith, early), needed_earlier w time t (t - 1) (omega arith) (a.0 refl).1))))
    | inr late ↦ let at : time ≡ t = omega (arith, late, (a.0 refl).0) in inl (at, needed_same w time t t at (a.0 refl).1)
  ],
  λ turns. refl,
)
differs_by w t time false true later a b = (
  λ yes. inr (omega (arith, (b.0 refl).0), (b.0 refl).1, λ needed. true≢false (sym (a.1 (omega (arith, (b.0 refl).0), needed)))),
  λ turns. refl,
)
differs_by w t time false false later a b = (
  λ no. absurd (true≢false (sym no)),
  λ turns. elim turns [
    | inl (at, needed) ↦ absurd (true≢false (sym (a.1 (omega (arith, at), needed_same w t time t (sym at) needed))))
    | inr (early, needed, left) ↦ absurd (true≢false (sym (b.1 (omega (arith, early), needed))))
  ],
)

changes_is : (w : Shape) (times : List ℕ) (t : ℕ) → 1 ≤ w.slide → 1 ≤ t
    → Decides (list_any (λ time. differ (in_content w t time) (in_content w (t - 1) time)) times) (Passing times (Turns w t))
changes_is w times t slide later =
    some_passing _ (Turns w t)
    (λ time. differs_by w t time _ _ later (in_content_is w t time slide) (in_content_is w (t - 1) time slide)) times

pub changes_by_entering : (w : Shape) (times : List ℕ) (t : ℕ) → 1 ≤ w.slide → 1 ≤ t → Contains times t × IsNeeded w t t
    → true ≡ list_any (λ time. differ (in_content w t time) (in_content w (t - 1) time)) times
changes_by_entering w times t slide later (listed, needed) =
    sym ((changes_is w times t slide later).1 (record { time = t; listed = listed; passes = inl (refl, needed) }))

pub changes_by_leaving : (w : Shape) (times : List ℕ) (t : ℕ) (leaves : Bool) → 1 ≤ w.slide → 1 ≤ t
    → (Contains times t × IsNeeded w t t → ⊥) → Decides leaves (Leaves w times t)
    → leaves ≡ list_any (λ time. differ (in_content w t time) (in_content w (t - 1) time)) times
changes_by_leaving w times t leaves slide later stays is = same_from_decides _ _ (
  λ yes. let found = is.0 yes in record { time = found.time; listed = found.listed; passes = inr (found.earlier, found.needed, found.left) },
  λ found. is.1 (left_of w times t stays found.time found.listed found.passes),
) (changes_is w times t slide later)
  where
    left_of : (w : Shape) (times : List ℕ) (t : ℕ) → (Contains times t × IsNeeded w t t → ⊥) → (time : ℕ) → Contains times time → Turns w t time → Leaves w times t
    left_of w times t stays time listed (inl (at, needed)) = absurd (stays (rw at at listed, needed))
    left_of w times t stays time listed (inr (early, needed, left)) = record { time = time; listed = listed; earlier = early; needed = needed; left = left }

same_both : (b : Bool) → differ b b ≡ false
same_both true = refl
same_both false = refl

pub none_changes_at_first : (w : Shape) (times : List ℕ) (t : ℕ) → t ≡ 0
    → false ≡ list_any (λ time. differ (in_content w t time) (in_content w (t - 1) time)) times
none_changes_at_first w times t first =
    let before : t - 1 ≡ t = omega (arith, first) in
    rw before (sym (list_any_none (λ time. differ (in_content w t time) (in_content w t time)) times (λ k d below. same_both (in_content w t (slice_index_or times k d)))))

pub changes_if_left : (w : Shape) (times : List ℕ) (t : ℕ) → 1 ≤ w.slide → Leaves w times t
    → list_any (λ time. differ (in_content w t time) (in_content w (t - 1) time)) times ≡ true
changes_if_left w times t slide leaves =
    (changes_is w times t slide (omega (arith, leaves.earlier))).1
    (record { time = leaves.time; listed = leaves.listed; passes = inr (leaves.earlier, leaves.needed, leaves.left) })

-- where the content changes, an item enters or leaves
turn_from : (w : Shape) (times : List ℕ) (t time : ℕ) → Contains times time → Turns w t time
    → (Contains times t × IsNeeded w t t) ⊎ Leaves w times t
turn_from w times t time listed (inl (at, needed)) = inl (rw at at listed, needed)
turn_from w times t time listed (inr (early, needed, left)) =
    inr (record { time = time; listed = listed; earlier = early; needed = needed; left = left })

pub turn_of : (w : Shape) (times : List ℕ) (t : ℕ) → 1 ≤ w.slide
    → list_any (λ time. differ (in_content w t time) (in_content w (t - 1) time)) times ≡ true
    → (Contains times t × IsNeeded w t t) ⊎ Leaves w times t
turn_of w times t slide changes = elim (cases_lt 0 t) [
  | inl later ↦ let found = (changes_is w times t slide later).0 changes in turn_from w times t found.time found.listed found.passes
  | inr first ↦ absurd (true≢false (sym (none_changes_at_first w times t (omega (arith, first)) ∙ changes)))
]
