-- Days, zones and instants by their parts.
use Rattle.std.proofs.Common.{sym, ◌≡◌, ℕ, ◌+◌, ◌-◌, ◌*◌, ◌<◌, Bool, true, false, List, length, take, drop, refl, ap, ◌∙◌, subst, arith, codes, Option, Some, None, if◌then◌else◌}
use Rattle.std.specs.Prelude.{◌&&◌, ◌||◌, ◌==◌, nat_eq, nat_le, ℤ, pos, neg_ℤ, ◌+ℤ◌, ◌-ℤ◌, ◌*ℤ◌, slice_index, IfSome, ◌≤◌, negsuc}
use Rattle.std.proofs.lemmas.Bool.Decides.{nat_tests}
use Rattle.rsp_spec.specs.Limits.{last_instant}
use Rattle.std.proofs.lemmas.List.{drop-drop}
use Rattle.std.proofs.lemmas.Grind.{common_steps}
use Rattle.std.proofs.lemmas.Int.{ints}
use Rattle.jiff_core.specs.declared.civil.date.Date.{Date}
use Rattle.jiff_core.specs.Calendar.{days_from_civil, IsDate}
use Rattle.jiff_core.specs.Date.{epoch_day, IsYmd}
use Rattle.std.specs.Bool.{then_some}
use Rattle.std.specs.Cmp.Lexicographic.{pointwise}
use Rattle.std.specs.Option.{option_and_then}
use Rattle.rsp_text.specs.Digits.{fraction, has_form, number, thousandths}
use Rattle.rsp_text.specs.Instants.{exists_day, instant, instant_of, is_date_time, day_number, seconds_of_day, is_fraction, minutes_ahead, since_1970}
use Rattle.rsp_text.proofs.DigitLaws.{other_length}

pub record Held {X : Type 0} (b : Bool) (x y : X) : Type 0 where
  pub test : b ≡ true
  pub value : x ≡ y

some_same : {X : Type 0} (x y : X) → Some x ≡ Some y → x ≡ y
some_same x y h = cc

pub held : {X : Type 0} (b : Bool) (x y : X) → Some x ≡ (if b then Some y else None) → Held b x y
held true x y h = record { test = refl; value = some_same x y h }
held false x y h = absurd (cc)

pub day_is : (y m d : ℕ) (a b e : ℤ) (date : Date) → a ≡ pos y → b ≡ pos m → e ≡ pos d → IsDate a b e → IsYmd a b e date
    → Some (epoch_day date) ≡ (if exists_day y m d then Some (days_from_civil (pos y) m d) else None)
day_is y m d a b e date ay bm ed is ymd =
    let there : IsDate (pos y) (pos m) (pos d) =
    subst (λ x. IsDate x (pos m) (pos d)) ay (subst (λ x. IsDate a x (pos d)) bm (subst (λ x. IsDate a b x) ed is)) in
    let test : exists_day y m d ≡ true = grind (arith, ints, nat_tests, there) in
    let month : date.month ≡ m = omega (arith, ints, ymd.1, bm) in
    let day : date.day ≡ d = omega (arith, ints, ymd.2, ed) in
    rw (test, ymd.0, ay, month, day) refl

-- in one of the two forms of an offset, within its bounds
abbrev pub is_offset : List ℕ → Bool
is_offset zone =
    (has_form (codes "+00:00") zone || has_form (codes "-00:00") zone)
    && (nat_le (number 2 4 zone) 59 && nat_le (number 2 1 zone * 60 + number 2 4 zone) (14 * 60))

abbrev minutes : List ℕ → ℕ
minutes zone = number 2 1 zone * 60 + number 2 4 zone

held_by : {X : Type 0} (b : Bool) (x y : X) → Some x ≡ then_some b y → Held b x y
held_by true x y h = record { test = refl; value = some_same x y h }
held_by false x y h = absurd (cc)

pub ahead_is : (zone : List ℕ) (n : ℕ) → pointwise nat_eq zone (codes "Z") ≡ false → Some n ≡ then_some (is_offset zone) (minutes zone)
    → Some (if slice_index zone 0 == 45 then neg_ℤ (pos n) else pos n) ≡ minutes_ahead zone
unfolding minutes_ahead
ahead_is zone n other is =
    let h = held_by (is_offset zone) n (minutes zone) is in
    rw (other, h.test, h.value) refl

pub utc_is : (zone : List ℕ) → pointwise nat_eq zone (codes "Z") ≡ true → Some (pos 0) ≡ minutes_ahead zone
unfolding minutes_ahead
utc_is zone is = rw is refl

pub no_ahead : (zone : List ℕ) → pointwise nat_eq zone (codes "Z") ≡ false → None ≡ then_some (is_offset zone) (minutes zone) → None ≡ minutes_ahead zone
unfolding minutes_ahead
no_ahead zone other is = rw other (by (is_offset zone) is)
  where
    by : (b : Bool) → None ≡ then_some b (minutes zone) → None ≡ then_some b (if slice_index zone 0 == 45 then neg_ℤ (pos (minutes zone)) else pos (minutes zone))
    by true none = absurd (cc)
    by false none = refl

abbrev pub Moment : Type 0
Moment = ℤ × ℕ

abbrev moment : Moment → Option Moment
moment x = Some x

pub no_date_time : (text : List ℕ) → has_form (codes "0000-00-00T00:00:00") text ≡ false
    → ◌≡◌ {A = Option Moment} None (then_some (is_date_time text) (day_number text, seconds_of_day text))
unfolding is_date_time
no_date_time text form = rw form refl

pub date_time_is : (text : List ℕ) (y m d h mi s : ℕ) (r : Option Moment) → y ≡ number 4 0 text → m ≡ number 2 5 text → d ≡ number 2 8 text
    → h ≡ number 2 11 text → mi ≡ number 2 14 text → s ≡ number 2 17 text → has_form (codes "0000-00-00T00:00:00") text ≡ true
    → r ≡ then_some (exists_day y m d && (nat_le h 23 && (nat_le mi 59 && nat_le s 59))) (days_from_civil (pos y) m d, (h * 60 + mi) * 60 + s)
    → r ≡ then_some (is_date_time text) (day_number text, seconds_of_day text)
unfolding is_date_time
date_time_is text y m d h mi s r ys ms ds hs mis ss form is = is ∙ rw (ys, ms, ds, hs, mis, ss, form) refl

pub instant_is : (front part zone : List ℕ) (x : Moment) (a : ℤ) (r : Option ℕ) → Some a ≡ minutes_ahead zone
    → moment x ≡ then_some (is_date_time front) (day_number front, seconds_of_day front) → is_fraction part ≡ true
    → r ≡ since_1970 (((x.0 *ℤ pos 86400000) +ℤ pos (x.1 * 1000 + thousandths part)) -ℤ (a *ℤ pos 60000))
    → r ≡ instant_of front part zone
instant_is front part zone x a r ahead at fraction is =
    let h = held_by (is_date_time front) x (day_number front, seconds_of_day front) at in
    is ∙ rw (sym ahead, h.test, fraction, h.value) refl

pub none_ahead : (front part zone : List ℕ) → None ≡ minutes_ahead zone → None ≡ instant_of front part zone
none_ahead front part zone none = rw (sym none) refl

none_by : (b : Bool) (o : Option ℤ) (f : ℤ → Option ℕ) → b ≡ false → None ≡ option_and_then (λ ahead. if b then f ahead else None) o
none_by b None f is = refl
none_by b (Some x) f is = rw is refl

pub no_moment : (front part zone : List ℕ) (test : Bool) → (is_date_time front && is_fraction part) ≡ false → None ≡ instant_of front part zone
no_moment front part zone test is =
    none_by (is_date_time front && is_fraction part) (minutes_ahead zone)
    (λ ahead. since_1970 (((day_number front *ℤ pos 86400000) +ℤ pos (seconds_of_day front * 1000 + thousandths part)) -ℤ (ahead *ℤ pos 60000))) is

pub none_tested : (front : List ℕ) → ◌≡◌ {A = Option Moment} None (then_some (is_date_time front) (day_number front, seconds_of_day front)) → is_date_time front ≡ false
none_tested front is = by (is_date_time front) is
  where
    by : (b : Bool) → ◌≡◌ {A = Option Moment} None (then_some b (day_number front, seconds_of_day front)) → b ≡ false
    by true none = absurd (cc)
    by false none = refl

and_false : (b : Bool) → (b && false) ≡ false
and_false true = refl
and_false false = refl

pub not_both : (a b : Bool) → b ≡ false → (a && b) ≡ false
not_both a b is = rw is (and_false a)

no_form : (front : List ℕ) → length front < 19 → is_date_time front ≡ false
unfolding is_date_time
no_form front less = rw (other_length (codes "0000-00-00T00:00:00") front less) refl

pub too_short : (text : List ℕ) → length text < 19 → instant text ≡ None
unfolding instant
too_short text less =
    let front : length (take 19 text) < 19 = grind (arith, common_steps) in
    let part = fraction (drop 19 text) in
    sym (no_moment (take 19 text) part (drop (19 + length part) text) true (rw (no_form (take 19 text) front) refl))

pub rest_is : (n : ℕ) (xs : List ℕ) → take (length xs - n) (drop n xs) ≡ drop n xs
rest_is n xs = grind (arith, common_steps)

pub instant_by : (text front behind part : List ℕ) (r : Option ℕ) → front ≡ take 19 text → behind ≡ drop 19 text → part ≡ fraction behind
    → r ≡ instant_of front part (take (length behind - length part) (drop (length part) behind)) → r ≡ instant text
unfolding instant
instant_by text front behind part r f b p is =
    let whole : part ≡ fraction (drop 19 text) = p ∙ ap fraction b in
    let zone : take (length behind - length part) (drop (length part) behind) ≡ drop (19 + length (fraction (drop 19 text))) text
    = rest_is (length part) behind
    ∙ (rw (whole, b) refl ∙ drop-drop (length (fraction (drop 19 text))) 19 text) in
    is ∙ rw (zone, whole, f) refl

-- ---- an instant is no later than the last

tested : (n : ℕ) (b : Bool) → nat_le n last_instant ≡ b → IfSome (then_some b n) (λ ms. ms ≤ last_instant)
tested n true is = grind (arith, nat_tests)
tested n false is = tt

since_within : (z : ℤ) → IfSome (since_1970 z) (λ ms. ms ≤ last_instant)
since_within (pos n) = tested n (nat_le n last_instant) refl
since_within (negsuc n) = tt

within_by : (b : Bool) (f : ℤ → ℤ) (o : Option ℤ) → IfSome (option_and_then (λ ahead. if b then since_1970 (f ahead) else None) o) (λ ms. ms ≤ last_instant)
within_by b f None = tt
within_by true f (Some x) = since_within (f x)
within_by false f (Some x) = tt

pub instant_within : (text : List ℕ) → IfSome (instant text) (λ ms. ms ≤ last_instant)
unfolding instant
instant_within text =
    let part = fraction (drop 19 text) in
    let local : ℤ = (day_number (take 19 text) *ℤ pos 86400000) +ℤ pos (seconds_of_day (take 19 text) * 1000 + thousandths part) in
    within_by (is_date_time (take 19 text) && is_fraction part) (λ ahead. local -ℤ (ahead *ℤ pos 60000)) (minutes_ahead (drop (19 + length part) text))
