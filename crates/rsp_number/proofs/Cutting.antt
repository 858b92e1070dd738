-- Long division finds the greatest scale.
use Rattle.std.specs.Prelude.{◌≡◌, ℕ, zero, suc, ◌+◌, ◌-◌, ◌*◌, ◌/◌, ◌%◌, ◌^◌, ◌<◌, ◌≤◌, Bool, true, false, nat_le, Some, None, option_map, refl}
use Rattle.std.proofs.Common.{sym, ◌∙◌, ap, arith, ⊎_elim}
use Rattle.std.proofs.lemmas.Bool.{lt-leb, cases_lt, true≢false}
use Rattle.std.proofs.lemmas.Bool.Decides.{nat_tests}
use Rattle.std.proofs.lemmas.Grind.{pow_more}
use Rattle.std.proofs.lemmas.Nat.{le-div, div-add-mod', pow-add}
use Rattle.std.proofs.Math.Nat.{pow-le-pow_right, mul-add-div_right, mul-le-mul_left, mul-add-mod_self_right, mul_assoc, mul_right_comm, mul-one, mul-div_cancel, div-mul-le_self}
use Rattle.rsp_number.proofs.Laws.{greatest-or-none}
use Rattle.rsp_number.proofs.Shortest.{shortest-zeros}
use Rattle.rsp_number.specs.Decimals.{largest, most_digits, greatest, cut, scale_of, shortest_form, fit_size}

pub greatest-none : (test : ℕ → Bool) (bound : ℕ) → ((t : ℕ) → t ≤ bound → test t ≡ false) → greatest test bound ≡ None
unfolding greatest
greatest-none test zero fails = rw (fails 0 (omega arith)) refl
greatest-none test (suc bound) fails =
    rw (fails (suc bound) (omega arith)) (greatest-none test bound (λ t below. fails t (omega arith)))

-- the last step of the search, at a number and one more
greatest-step : (test : ℕ → Bool) (bound s : ℕ) (b : Bool) → test (suc bound) ≡ b → s ≤ suc bound → test s ≡ true → (b ≡ true → s ≡ suc bound)
    → (b ≡ false → greatest test bound ≡ Some s) → greatest test (suc bound) ≡ Some s
unfolding greatest
greatest-step test bound s true is within holds last earlier = rw is (ap Some (sym (last refl)))
greatest-step test bound s false is within holds last earlier = rw is (earlier refl)

pub greatest-at : (test : ℕ → Bool) (bound s : ℕ) → s ≤ bound → test s ≡ true → ((t : ℕ) → s < t → t ≤ bound → test t ≡ false) → greatest test bound ≡ Some s
unfolding greatest
greatest-at test zero s within holds fails =
    let same : s ≡ 0 = omega arith in
    rw (rw same at holds) (ap Some (sym same))
greatest-at test (suc bound) s within holds fails =
    greatest-step test bound s (test (suc bound)) refl within holds
    (λ last. ⊎_elim (λ below. absurd (true≢false (sym last ∙ fails (suc bound) below (omega arith)))) (λ above. omega arith) (cases_lt s (suc bound)))
    (λ other. ⊎_elim (λ below. greatest-at test bound s (omega arith) holds (λ t above under. fails t above (omega arith)))
    (λ above. let same : s ≡ suc bound = omega arith in absurd (true≢false (sym holds ∙ ap test same ∙ other)))
    (cases_lt s (suc bound)))

pub cut-grows : (n d s t : ℕ) → 0 < d → s ≤ t → cut n d s ≤ cut n d t
cut-grows n d s t positive within =
    let powers : 10 ^ s ≤ 10 ^ t = pow-le-pow_right (omega arith) within in
    let grown : n * 10 ^ s ≤ n * 10 ^ t = mul-le-mul_left n powers in
    let under : (n * 10 ^ s / d) * d ≤ n * 10 ^ s = div-mul-le_self (n * 10 ^ s) d in
    le-div (cut n d s) (n * 10 ^ t) d positive (omega arith)

tenfold : (q d r a : ℕ) → q * d + r ≡ a → q * 10 * d + r * 10 ≡ a * 10
tenfold q d r a is = omega (arith, mul_right_comm q 10 d)

next : (n s : ℕ) → n * 10 ^ (s + 1) ≡ n * 10 ^ s * 10
next n s = rw (pow_more 10 s) (sym (mul_assoc n (10 ^ s) 10))

split : (n d s : ℕ) → n * 10 ^ (s + 1) ≡ cut n d s * 10 * d + (n * 10 ^ s % d) * 10
split n d s = next n s ∙ sym (tenfold (cut n d s) d (n * 10 ^ s % d) (n * 10 ^ s) (div-add-mod' (n * 10 ^ s) d))

pub cut-more : (n d s : ℕ) → 0 < d → cut n d (s + 1) ≡ cut n d s * 10 + (n * 10 ^ s % d) * 10 / d
cut-more n d s positive =
    ap (λ m. m / d) (split n d s) ∙ mul-add-div_right positive (cut n d s * 10) ((n * 10 ^ s % d) * 10)

pub rest-more : (n d s : ℕ) → n * 10 ^ (s + 1) % d ≡ (n * 10 ^ s % d) * 10 % d
rest-more n d s =
    ap (λ m. m % d) (split n d s) ∙ mul-add-mod_self_right (cut n d s * 10) d ((n * 10 ^ s % d) * 10)

fits-at : (n d s : ℕ) → cut n d s ≤ largest → nat_le (cut n d s) largest ≡ true
fits-at n d s fits = grind (arith, nat_tests)

past-after : (n d s t : ℕ) → 0 < d → s ≤ t → largest < cut n d s → nat_le (cut n d t) largest ≡ false
past-after n d s t positive within past = let grown = cut-grows n d s t positive within in lt-leb _ _ (omega arith)

pub scale-none : (n d : ℕ) → 0 < d → largest < cut n d 0 → scale_of n d ≡ None
scale-none n d positive past =
    greatest-none (λ scale. nat_le (cut n d scale) largest) most_digits (λ t _. past-after n d 0 t positive (omega arith) past)

-- at most 18 digits, and one more doesn't fit
pub scale-before : (n d s : ℕ) → 0 < d → s < most_digits → cut n d s ≤ largest → largest < cut n d (s + 1) → scale_of n d ≡ Some s
scale-before n d s positive within fits past =
    greatest-at (λ scale. nat_le (cut n d scale) largest) most_digits s (omega arith) (fits-at n d s fits)
    (λ t above _. past-after n d (s + 1) t positive (omega arith) past)

pub scale-last : (n d : ℕ) → cut n d most_digits ≤ largest → scale_of n d ≡ Some most_digits
scale-last n d fits =
    greatest-at (λ scale. nat_le (cut n d scale) largest) most_digits most_digits (omega arith) (fits-at n d most_digits fits)
    (λ t above within. absurd (omega arith))

-- the same of `fit_size`, as the code's steps have it

pub fit-none : (b : Bool) (n d : ℕ) → 0 < d → largest < n / d → None ≡ fit_size b n d
fit-none b n d positive past =
    let first : cut n d 0 ≡ n / d = ap (λ m. m / d) (mul-one n) in
    sym (ap (option_map (λ scale. shortest_form b (cut n d scale) scale)) (scale-none n d positive (rw first past)))

pub fit-before : (b : Bool) (n d s size rest : ℕ) → 0 < d → s < most_digits → size ≡ cut n d s → rest ≡ n * 10 ^ s % d → size ≤ largest → largest < size * 10 + rest * 10 / d
    → Some (shortest_form b size s) ≡ fit_size b n d
fit-before b n d s size rest positive within size-is rest-is fits past =
    let more = cut-more n d s positive in
    let next : cut n d (s + 1) ≡ size * 10 + rest * 10 / d = rw (size-is, rest-is) more in
    ap (λ x. Some (shortest_form b x s)) size-is
    ∙ sym (ap (option_map (λ scale. shortest_form b (cut n d scale) scale))
    (scale-before n d s positive within (rw (← size-is) fits) (rw next past)))

pub fit-last : (b : Bool) (n d size : ℕ) → size ≡ cut n d most_digits → size ≤ largest → Some (shortest_form b size most_digits) ≡ fit_size b n d
fit-last b n d size size-is fits =
    ap (λ x. Some (shortest_form b x most_digits)) size-is
    ∙ sym (ap (option_map (λ scale. shortest_form b (cut n d scale) scale)) (scale-last n d (rw (← size-is) fits)))

pub next-size : (n d s size rest : ℕ) → 0 < d → size ≡ cut n d s → rest ≡ n * 10 ^ s % d → size * 10 + rest * 10 / d ≡ cut n d (s + 1)
next-size n d s size rest positive size-is rest-is = rw (size-is, rest-is) (sym (cut-more n d s positive))

pub next-rest : (n d s rest : ℕ) → rest ≡ n * 10 ^ s % d → rest * 10 % d ≡ n * 10 ^ (s + 1) % d
next-rest n d s rest rest-is = rw rest-is (sym (rest-more n d s))

-- where the division ends exactly, more digits are zeros

greatest-from : (test : ℕ → Bool) (bound s : ℕ) → s ≤ bound → test s ≡ true → (k : ℕ) × (greatest test bound ≡ Some (s + k))
greatest-from test bound s within holds =
    ⊎_elim (λ none. absurd (true≢false (sym holds ∙ none.fails s within)))
    (λ one. ⊎_elim (λ past. absurd (true≢false (sym holds ∙ one.1.past s past within)))
    (λ above. let split : one.0 ≡ s + (one.0 - s) = omega arith in (one.0 - s, one.1.is ∙ ap Some split))
    (cases_lt one.0 s))
    (greatest-or-none test bound)

whole-cut : (n d s k size rest : ℕ) → 0 < d → size ≡ cut n d s → rest ≡ n * 10 ^ s % d → rest ≡ 0 → cut n d (s + k) ≡ size * 10 ^ k
whole-cut n d s k size rest positive size-is rest-is none =
    let whole : n * 10 ^ s ≡ size * d = sym (div-add-mod' (n * 10 ^ s) d) ∙ rw (sym size-is, sym rest-is, none) (omega arith) in
    ap (λ m. m / d) (ap (λ m. n * m) (pow-add 10 s k) ∙ sym (mul_assoc n (10 ^ s) (10 ^ k)) ∙ ap (λ m. m * 10 ^ k) whole ∙ mul_right_comm size d (10 ^ k))
    ∙ mul-div_cancel (size * 10 ^ k) positive

pub fit-exact : (b : Bool) (n d s size rest : ℕ) → 0 < d → s ≤ most_digits → size ≡ cut n d s → rest ≡ n * 10 ^ s % d → size ≤ largest → rest ≡ 0
    → Some (shortest_form b size s) ≡ fit_size b n d
fit-exact b n d s size rest positive within size-is rest-is fits none =
    let found = greatest-from (λ scale. nat_le (cut n d scale) largest) most_digits s within (fits-at n d s (rw (← size-is) fits)) in
    sym (ap (option_map (λ scale. shortest_form b (cut n d scale) scale)) found.1
    ∙ ap (λ m. Some (shortest_form b m (s + found.0))) (whole-cut n d s found.0 size rest positive size-is rest-is none)
    ∙ ap Some (shortest-zeros b size s found.0))
