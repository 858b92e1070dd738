-- A window's times, once those are let go that are in no content, and once one is put at its place: what they tell, and how they
-- stand.
use Rattle.std.proofs.Common.{◌≡◌, ℕ, ◌-◌, ◌^◌, ◌≤◌, ◌&&◌, ◌||◌, Bool, true, false, not, List, [], ◌∷◌, ◌++◌, drop, filter, refl, sym, ap, subst, ◌∙◌}
use Rattle.std.specs.List.{All, list_any}
use Rattle.std.specs.List.Sorted.{IsNonDecreasing, IsPermutation}
use Rattle.std.proofs.lemmas.Bool.{and_parts, or_left, or_right}
use Rattle.std.proofs.lemmas.List.Elements.{All-cons, All-drop, All-same}
use Rattle.std.proofs.lemmas.List.Sorted.{All-permutation, IsNonDecreasingBy-drop, list_any-IsPermutation}
use Rattle.rsp_spec.specs.Windows.{Shape, in_content}
use Rattle.rsp_report.specs.declared.contents.Watched.{Watched}
use Rattle.rsp_report.specs.Due.{IsWatched}
use Rattle.rsp_engine.specs.Watching.{told_at, with_time}
use Rattle.rsp_engine.proofs.Telling.{any_kept, any_last}

-- ---- what they tell at t

-- whether a time stands in the content at t or at the instant before
abbrev pub seen_in : Shape → ℕ → ℕ → Bool
seen_in w t time = in_content w t time || in_content w (t - 1) time

abbrev enters_in : Shape → ℕ → ℕ → Bool
enters_in w t time = in_content w t time && not (in_content w (t - 1) time)

abbrev leaves_in : Shape → ℕ → ℕ → Bool
leaves_in w t time = not (in_content w t time) && in_content w (t - 1) time

holds_seen : (w : Shape) (t time : ℕ) → in_content w t time ≡ true → seen_in w t time ≡ true
holds_seen w t time is = or_left (in_content w t time) (in_content w (t - 1) time) is

enters_seen : (w : Shape) (t time : ℕ) → enters_in w t time ≡ true → seen_in w t time ≡ true
enters_seen w t time is =
    or_left (in_content w t time) (in_content w (t - 1) time) (and_parts (in_content w t time) (not (in_content w (t - 1) time)) is).0

leaves_seen : (w : Shape) (t time : ℕ) → leaves_in w t time ≡ true → seen_in w t time ≡ true
leaves_seen w t time is =
    or_right (in_content w t time) (in_content w (t - 1) time) (and_parts (not (in_content w t time)) (in_content w (t - 1) time) is).1

or_turned : (a b : Bool) → (a || b) ≡ (b || a)
or_turned true true = refl
or_turned true false = refl
or_turned false true = refl
or_turned false false = refl

module _ (old : Watched) (t time : ℕ) (kept : List ℕ) (same : filter (seen_in old.window t) kept ≡ filter (seen_in old.window t) old.times) where
  any_same : (p : ℕ → Bool) → ((x : ℕ) → p x ≡ true → seen_in old.window t x ≡ true) → list_any p kept ≡ list_any p old.times
  any_same p implies =
      sym (any_kept p (seen_in old.window t) implies kept)
      ∙ (ap (list_any p) same ∙ any_kept p (seen_in old.window t) implies old.times)

  -- where the item isn't over its stream
  pub told_kept : (over : Bool) → over ≡ false
      → told_at t (record { window = old.window; times = kept; fresh = over }) ≡ told_at t (with_time over time old)
  told_kept over is = rw is alike
    where
      alike : told_at t (record { window = old.window; times = kept; fresh = false }) ≡ told_at t (with_time false time old)
      alike = λ k.
          record {
            window = old.window;
            holds = any_same (in_content old.window t) (holds_seen old.window t) k;
            enters = any_same (enters_in old.window t) (enters_seen old.window t) k;
            leaves = any_same (leaves_in old.window t) (leaves_seen old.window t) k;
            fresh = false;
          }

  any_put : (p : ℕ → Bool) → ((x : ℕ) → p x ≡ true → seen_in old.window t x ≡ true) → (new : List ℕ) → IsPermutation (time ∷ kept) new
      → list_any p new ≡ list_any p (old.times ++ time ∷ [])
  any_put p implies new put =
      sym (list_any-IsPermutation p (time ∷ kept) new put)
      ∙ (ap (λ b. p time || b) (any_same p implies) ∙ (or_turned (p time) (list_any p old.times) ∙ sym (any_last p old.times time)))

  -- and where it is
  pub told_more : (over : Bool) (new : List ℕ) → over ≡ true → IsPermutation (time ∷ kept) new
      → told_at t (record { window = old.window; times = new; fresh = over }) ≡ told_at t (with_time over time old)
  told_more over new is put = rw is alike
    where
      alike : told_at t (record { window = old.window; times = new; fresh = true }) ≡ told_at t (with_time true time old)
      alike = λ k.
          record {
            window = old.window;
            holds = any_put (in_content old.window t) (holds_seen old.window t) new put k;
            enters = any_put (enters_in old.window t) (enters_seen old.window t) new put k;
            leaves = any_put (leaves_in old.window t) (leaves_seen old.window t) new put k;
            fresh = true;
          }

-- ---- how they stand

module _ (times kept : List ℕ) (n : ℕ) (rest : kept ≡ drop n times) where
  pub kept_sorted : IsNonDecreasing times → IsNonDecreasing kept
  kept_sorted sorted = subst IsNonDecreasing (sym rest) (IsNonDecreasingBy-drop (λ t. t) n times sorted)

  pub kept_all : (P : ℕ → Type 0) → All P times → All P kept
  kept_all P all = All-same P kept (drop n times) rest (All-drop P n times all)

  pub put_all : (P : ℕ → Type 0) (time : ℕ) (new : List ℕ) → IsPermutation (time ∷ kept) new → P time → All P times → All P new
  put_all P time new put holds all = All-permutation P (time ∷ kept) new put (All-cons P time kept holds (kept_all P all))
