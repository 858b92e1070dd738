-- Where all strategies agree: the least instants of several, by one question each.
use Rattle.std.specs.Prelude.{◌≡◌, ℕ, ◌+◌, ◌-◌, ◌*◌, ◌/◌, ◌%◌, ◌<◌, ◌≤◌, ◌==◌, Bool, true, false, ◌&&◌, ◌||◌, Option, None, Some, List, [], ◌∷◌, take, length, ◌⊎◌}
use Rattle.std.specs.List.{list_any, slice_index_or}
use Rattle.std.proofs.Common.{arith, ap, inl, inr, sym, refl, true≢false, ◌∙◌}
use Rattle.std.proofs.Math.Nat.{mul-le-mul_right}
use Rattle.std.proofs.lemmas.Bool.{cases_lt}
use Rattle.std.proofs.lemmas.Bool.Decides.{nat_tests}
use Rattle.std.proofs.lemmas.Nat.{mod_below, mod-mul-add}
use Rattle.std.proofs.lemmas.List.Folds.{list_any_more}
use Rattle.rsp_spec.specs.Windows.{Shape, closes_at}
use Rattle.rsp_spec.specs.Relations.{IsNextClosing}
use Rattle.rsp_spec.specs.Instants.{IsLeastIn}
use Rattle.rsp_spec.proofs.InstantLaws.{least_alike}
use Rattle.rsp_spec.proofs.WindowLaws.{closes_at_is}
use Rattle.rsp_spec.proofs.Truths.{both_are, equal_from}
use Rattle.rsp_report.specs.declared.chosen.Chosen.{Chosen}
use Rattle.rsp_report.specs.declared.contents.Watched.{Watched}
use Rattle.rsp_report.specs.Due.{changes, has_content, is_due}
use Rattle.rsp_report.specs.Leaps.{closes, some_window, unless_asked, divides}
use Rattle.rsp_report.specs.Searches.{sooner}
use Rattle.rsp_report.specs.Leaps.{AllHold, HoldsByTime}
use Rattle.rsp_report.proofs.NextItems.{sooner_least}

either_true : (a b : Bool) → (a || b) ≡ true → (a ≡ true) ⊎ (b ≡ true)
either_true true b h = inl refl
either_true false b h = inr h

true_either : (a b : Bool) → (a ≡ true) ⊎ (b ≡ true) → (a || b) ≡ true
true_either true b h = refl
true_either false b (inl h) = absurd (true≢false (sym h))
true_either false b (inr h) = h

both_true : (a b : Bool) → a ≡ true → b ≡ true → (a && b) ≡ true
both_true true b x y = y
both_true false b x y = x

-- one window more
pub prefix_more : (f : ℕ → Watched → Bool) (ws : List Watched) (i : ℕ) (one : Watched) (from to : ℕ) (a b : Option ℕ) → i < length ws
    → slice_index_or ws i one ≡ one → IsLeastIn (λ t. some_window (f t) (take i ws) ≡ true) from to a
    → IsLeastIn (λ t. f t one ≡ true) from to b → IsLeastIn (λ t. some_window (f t) (take (i + 1) ws) ≡ true) from to (sooner a b)
prefix_more f ws i one from to a b below at before here =
    least_alike (λ t. (some_window (f t) (take i ws) ≡ true) ⊎ (f t one ≡ true)) _
    (λ t h. more t ∙ true_either _ _ h) (λ t h. either_true _ _ (sym (more t) ∙ h)) from to (sooner a b)
    (sooner_least _ _ from to a b before here)
  where
    more : (t : ℕ) → some_window (f t) (take (i + 1) ws) ≡ (some_window (f t) (take i ws) || f t one)
    more t = list_any_more (f t) ws i one below ∙ ap (λ w. some_window (f t) (take i ws) || f t w) at

-- a test of the instant beside a test of the windows
any_and : (f : Watched → Bool) (b : Bool) (ws : List Watched) → list_any (λ w. f w && b) ws ≡ (list_any f ws && b)
any_and f b [] = refl
any_and f b (w ∷ ws) = rw (any_and f b ws) (spread (f w) (list_any f ws) b)
  where
    spread : (x y b : Bool) → ((x && b) || (y && b)) ≡ ((x || y) && b)
    spread true y true = refl
    spread true true false = refl
    spread true false false = refl
    spread false y b = refl

pub closings_by_time : (policy : Chosen) (ws : List Watched) (period from to : ℕ) (r : Option ℕ) → policy.close ≡ true
    → ((t : ℕ) → (t % period == 0) ≡ divides policy.period t)
    → IsLeastIn (λ t. some_window (λ w. closes t w && (t % period == 0)) ws ≡ true) from to r → IsLeastIn (HoldsByTime policy ws) from to r
closings_by_time policy ws period from to r asked alike is =
    least_alike _ _ (λ t h. sym (same t) ∙ h) (λ t h. same t ∙ h) from to r is
  where
    same : (t : ℕ) → some_window (λ w. closes t w && (t % period == 0)) ws
        ≡ (unless_asked policy.close (some_window (closes t) ws) && divides policy.period t)
    same t = rw asked (any_and (closes t) (t % period == 0) ws ∙ ap (λ b. some_window (closes t) ws && b) (alike t))

pub asked_alike : (asked : Bool) (p : ℕ → Bool) (from to : ℕ) (r : Option ℕ) → asked ≡ true → IsLeastIn (λ t. p t ≡ true) from to r
    → IsLeastIn (λ t. unless_asked asked (p t) ≡ true) from to r
asked_alike true p from to r is least = least
asked_alike false p from to r is least = absurd (true≢false (sym is))

parts_of : (a b c d : Bool) → (a && (b && (c && d))) ≡ true → ((a && d) ≡ true) × (b ≡ true) × (c ≡ true)
parts_of true true true d h = (h, refl, refl)
parts_of true true false d h = absurd (true≢false (sym h))
parts_of true false c d h = absurd (true≢false (sym h))
parts_of false b c d h = absurd (true≢false (sym h))

whole_of : (a b c d : Bool) → (a && d) ≡ true → b ≡ true → c ≡ true → (a && (b && (c && d))) ≡ true
whole_of true true true d h b c = h
whole_of true true false d h b c = absurd (true≢false (sym c))
whole_of true false c d h b is = absurd (true≢false (sym b))
whole_of false b c d h is it = absurd (true≢false (sym h))

pub due_by_all : (policy : Chosen) (ws : List Watched) (from to : ℕ) (r : Option ℕ) → IsLeastIn (AllHold policy ws) from to r
    → IsLeastIn (λ t. is_due policy ws t ≡ true) from to r
due_by_all policy ws from to r is = least_alike (AllHold policy ws) _
    (λ t h. whole_of (unless_asked policy.close (some_window (closes t) ws)) (unless_asked policy.change (some_window (changes t) ws))
    (unless_asked policy.nonempty (some_window (has_content t) ws)) (divides policy.period t) h.0 h.1 h.2)
    (λ t h. parts_of (unless_asked policy.close (some_window (closes t) ws)) (unless_asked policy.change (some_window (changes t) ws))
    (unless_asked policy.nonempty (some_window (has_content t) ws)) (divides policy.period t) h)
    from to r is

test_of : (x : ℕ) → x ≡ 0 → (x == 0) ≡ true
test_of x is = grind (arith, nat_tests, is)

pub none_before_next : (w : Shape) (period from to next : ℕ) → 1 ≤ w.slide → IsNextClosing w from next → to < next
    → IsLeastIn (λ t. (closes_at w t && (t % period == 0)) ≡ true) from to None
none_before_next w period from to next slide is beyond = λ t late early h.
    let found = (closes_at_is w t slide).0 (both_are _ _ h).0 in
    omega (arith, early, beyond, found.1, is.least found.0 (omega (arith, late, found.1)))

pub none_below_period : (w : Shape) (period from to : ℕ) → 1 ≤ w.slide → 1 ≤ w.width → to < period
    → IsLeastIn (λ t. (closes_at w t && (t % period == 0)) ≡ true) from to None
none_below_period w period from to slide width beyond = λ t late early h.
    let parts = both_are _ _ h in
    let found = (closes_at_is w t slide).0 parts.0 in
    let whole : t % period ≡ 0 = equal_from (t % period) 0 parts.1 in
    let small : t % period ≡ t = grind (arith, early, beyond) in
    omega (arith, found.1, width, whole, small)

multiple_behind : (period from t : ℕ) → 0 < from % period → t % period ≡ 0 → from ≤ t → from + (period - from % period) ≤ t
multiple_behind period from t rest whole late =
    let t_is : t ≡ t / period * period = grind arith in
    let from_is : from ≡ from / period * period + from % period = grind arith in
    elim (cases_lt (from / period) (t / period)) [
      | inl more ↦ let high : (from / period + 1) * period ≤ t / period * period = mul-le-mul_right period (omega (arith, more)) in
          omega (arith, t_is, from_is, high, late)
      | inr less ↦ let low : t / period * period ≤ from / period * period = mul-le-mul_right period less in
          absurd (omega (arith, t_is, from_is, low, late, rest))
    ]

pub multiple_next : (period from to : ℕ) → 0 < period → 0 < from % period → from + (period - from % period) ≤ to
    → IsLeastIn (λ t. (t % period == 0) ≡ true) from to (Some (from + (period - from % period)))
multiple_next period from to low rest high = (
  omega arith,
  high,
  test_of _ (whole_at period from low rest),
  λ t late h. multiple_behind period from t rest (equal_from (t % period) 0 h) late,
)
  where
    whole_at : (period from : ℕ) → 0 < period → 0 < from % period → (from + (period - from % period)) % period ≡ 0
    whole_at period from low rest =
        let below : from % period < period = mod_below from period low in
        let from_is : from ≡ from / period * period + from % period = grind arith in
        let same : from + (period - from % period) ≡ (from / period + 1) * period + 0 = omega (arith, below, from_is) in
        rw same (mod-mul-add (from / period + 1) period 0 low)
