-- Digits: their number, and how it is parsed.
use Rattle.std.proofs.Common.{◌≡◌, ℕ, zero, suc, ◌^◌, ◌<◌, Bool, true, false, true≢false, cond, List, [], ◌∷◌, length, take, drop, nat_lt, refl, sym, ap, arith, rules, if◌then◌else◌, Some, None, Result, Ok, Err}
use Rattle.std.specs.Prelude.{◌||◌, ◌==◌}
use Rattle.std.specs.Char.{is_ascii_digit}
use Rattle.std.specs.Cmp.Lexicographic.{pointwise}
use Rattle.std.specs.List.{list_all, take_while}
use Rattle.std.specs.Str.{IsAscii}
use Rattle.std.specs.Str.Parse.{digits_value, ParsesUnsigned}
use Rattle.std.specs.Result.{OkIff, result_ok}
use Rattle.rsp_text.specs.Digits.{is_written_like, has_form}
use Rattle.std.proofs.lemmas.Bool.Decides.{nat_tests}
use Rattle.std.proofs.lemmas.List.Sums.{take_while-cons}
use Rattle.std.proofs.lemmas.Str.Parse.{IsDigitsTest, IsNumeralModel, numerals_by_value, parse_digits}
use Rattle.rsp_spec.proofs.Truths.{and_left, and_right}

all-take_while_by : (p : ℕ → Bool) (b : Bool) (x : ℕ) (xs : List ℕ) → p x ≡ b → list_all p (take_while p xs) ≡ true
    → list_all p (cond b (x ∷ take_while p xs) []) ≡ true
all-take_while_by p true x xs h more = rw h more
all-take_while_by p false x xs h more = refl

pub all-take_while : (p : ℕ → Bool) (xs : List ℕ) → list_all p (take_while p xs) ≡ true
all-take_while p [] = refl
all-take_while p (x ∷ xs) = rw (take_while-cons p x xs) (all-take_while_by p (p x) x xs refl (all-take_while p xs))

pub digits_ascii : (ds : List ℕ) → list_all is_ascii_digit ds ≡ true → IsAscii ds
digits_ascii [] h i = omega arith
digits_ascii (c ∷ cs) h zero = let is : is_ascii_digit c ≡ true = and_left _ _ h in grind (arith, nat_tests)
digits_ascii (c ∷ cs) h (suc i) = digits_ascii cs (and_right (is_ascii_digit c) (list_all is_ascii_digit cs) h) i

tells : IsDigitsTest (λ ds. list_all is_ascii_digit ds ≡ true)
tells = search rules

own : IsNumeralModel (λ ds. list_all is_ascii_digit ds ≡ true) (digits_value 10)
own = numerals_by_value _ tells

parsed_by : {E : Type 0} (n : ℕ) (some : Type 0) (r : Result ℕ E) → some → OkIff r (some × (n < 2 ^ 64)) n
    → result_ok r ≡ (if nat_lt n (2 ^ 64) then Some n else None)
parsed_by n some (Ok m) h is = let test : nat_lt n (2 ^ 64) ≡ true = grind (arith, nat_tests) in rw (test, is.1) refl
parsed_by n some (Err e) h is = let test : nat_lt n (2 ^ 64) ≡ false = grind (arith, nat_tests) in rw test refl

pub parsed : {E : Type 0} (ds : List ℕ) (r : Result ℕ E) → list_all is_ascii_digit ds ≡ true → 0 < length ds → ParsesUnsigned 64 10 ds r
    → result_ok r ≡ (if nat_lt (digits_value 10 ds) (2 ^ 64) then Some (digits_value 10 ds) else None)
parsed ds r digits some h = parsed_by (digits_value 10 ds) (0 < length ds) r some (parse_digits own 64 ds r h digits)

-- ---- texts of fixed form

abbrev pub is_zero : ℕ → Bool
is_zero m = m == 48

digits_by : (a b : Bool) (P : Type 0) → (a || b) ≡ true → (a ≡ true → P) → (b ≡ true → P) → P
digits_by true b P h first second = first refl
digits_by false b P h first second = second h

false_if : (b : Bool) → ¬ (b ≡ true) → b ≡ false
false_if true never = absurd (never refl)
false_if false never = refl

cond_true : (b x y : Bool) → cond b x y ≡ true → b ≡ true → x ≡ true
cond_true true x y h is = h
cond_true false x y h is = absurd (true≢false (sym is))

none : (n : ℕ) → list_all is_ascii_digit (take n []) ≡ true
none zero = refl
none (suc n) = refl

digits_at_front : (n : ℕ) (model text : List ℕ) → pointwise is_written_like model text ≡ true
    → list_all is_zero (take n model) ≡ true → list_all is_ascii_digit (take n text) ≡ true
digits_at_front zero model text same zeros = refl
digits_at_front (suc n) [] [] same zeros = refl
digits_at_front (suc n) [] (c ∷ cs) same zeros = absurd (true≢false (sym same))
digits_at_front (suc n) (m ∷ ms) [] same zeros = refl
digits_at_front (suc n) (m ∷ ms) (c ∷ cs) same zeros =
    let here : is_ascii_digit c ≡ true
    = cond_true (m == 48) (is_ascii_digit c) (m == c) (and_left (is_written_like m c) _ same) (and_left _ _ zeros) in
    rw here (digits_at_front n ms cs (and_right (is_written_like m c) _ same) (and_right (is_zero m) _ zeros))

digits_from : (n place : ℕ) (model text : List ℕ) → pointwise is_written_like model text ≡ true
    → list_all is_zero (take n (drop place model)) ≡ true → list_all is_ascii_digit (take n (drop place text)) ≡ true
digits_from n zero model text same zeros = digits_at_front n model text same zeros
digits_from n (suc place) [] [] same zeros = none n
digits_from n (suc place) [] (c ∷ cs) same zeros = absurd (true≢false (sym same))
digits_from n (suc place) (m ∷ ms) [] same zeros = none n
digits_from n (suc place) (m ∷ ms) (c ∷ cs) same zeros = digits_from n place ms cs (and_right (is_written_like m c) _ same) zeros

pub digits_in_form : (n place : ℕ) (model text : List ℕ) → has_form model text ≡ true
    → list_all is_zero (take n (drop place model)) ≡ true → list_all is_ascii_digit (take n (drop place text)) ≡ true
unfolding has_form
digits_in_form n place model text same zeros = digits_from n place model text same zeros

-- in one of two forms
pub digits_in_either : (n place : ℕ) (model other text : List ℕ) → (has_form model text || has_form other text) ≡ true
    → list_all is_zero (take n (drop place model)) ≡ true → list_all is_zero (take n (drop place other)) ≡ true
    → list_all is_ascii_digit (take n (drop place text)) ≡ true
digits_in_either n place model other text either zeros others =
    digits_by (has_form model text) (has_form other text) _ either
    (λ same. digits_in_form n place model text same zeros)
    (λ same. digits_in_form n place other text same others)

length_of : (model text : List ℕ) → pointwise is_written_like model text ≡ true → length text ≡ length model
length_of [] [] same = refl
length_of [] (c ∷ cs) same = absurd (true≢false (sym same))
length_of (m ∷ ms) [] same = absurd (true≢false (sym same))
length_of (m ∷ ms) (c ∷ cs) same = ap (λ n. suc n) (length_of ms cs (and_right (is_written_like m c) _ same))

pub other_length : (model text : List ℕ) → length text < length model → has_form model text ≡ false
unfolding has_form
other_length model text less = false_if (pointwise is_written_like model text) (λ same. let is = length_of model text same in omega arith)
