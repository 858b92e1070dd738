-- The shortest form of size / 10 ^ scale: it has the same value, no zero ends its digits, and no other such form has its value.
use Rattle.std.specs.Prelude.{◌≡◌, ◌≢◌, ℕ, zero, suc, ◌+◌, ◌-◌, ◌*◌, ◌/◌, ◌%◌, ◌^◌, ◌<◌, ◌≤◌, Bool, true, false, ◌==◌, ◌⊎◌, unsigned_abs, refl}
use Rattle.std.proofs.Common.{sym, ◌∙◌, ap, inl, inr, ⊎_elim, arith, add-zero}
use Rattle.std.proofs.lemmas.Bool.{cases_order}
use Rattle.std.proofs.lemmas.Bool.Decides.{nat_tests}
use Rattle.std.proofs.lemmas.Nat.{pow-add}
use Rattle.std.proofs.Math.Nat.{mul-div_cancel, mul-one, mul_assoc, mul_right_comm, mul_comm, pow-suc, add-suc, one-le-pow, eq_of_mul-eq-mul_right, mul-mod_left}
use Rattle.rsp_number.specs.Decimals.{with_sign, shortest_form}

pub unsigned_abs-signed : (negative : Bool) (size : ℕ) → unsigned_abs (with_sign negative size) ≡ size
unsigned_abs-signed false size = refl
unsigned_abs-signed true zero = refl
unsigned_abs-signed true (suc size) = refl

-- ---- the steps

zero-last : (size : ℕ) → (size * 10 % 10 == 0) ≡ true
zero-last size = let none : size * 10 % 10 ≡ 0 = omega arith in grind (arith, nat_tests)

not-zero-last : (size : ℕ) → size % 10 ≢ 0 → (size % 10 == 0) ≡ false
not-zero-last size other = grind (arith, nat_tests)

pub shortest-zero : (negative : Bool) (size scale : ℕ) → shortest_form negative (size * 10) (suc scale) ≡ shortest_form negative size scale
shortest-zero negative size scale =
    rw (zero-last size) (ap (λ rest. shortest_form negative rest scale) (mul-div_cancel size (omega arith)))

pub shortest-other : (negative : Bool) (size scale : ℕ) → size % 10 ≢ 0
    → shortest_form negative size (suc scale) ≡ record { coefficient = with_sign negative size; scale = suc scale }
shortest-other negative size scale other = rw (not-zero-last size other) refl

pub shortest-zeros : (negative : Bool) (size scale k : ℕ) → shortest_form negative (size * 10 ^ k) (scale + k) ≡ shortest_form negative size scale
shortest-zeros negative size scale zero = rw (add-zero scale) (ap (λ m. shortest_form negative m scale) (mul-one size))
shortest-zeros negative size scale (suc k) =
    rw (add-suc scale k, pow-suc 10 k, ← mul_assoc size (10 ^ k) 10)
    (shortest-zero negative (size * 10 ^ k) (scale + k) ∙ shortest-zeros negative size scale k)

-- ---- its value

-- size / 10 ^ scale in its shortest form, coefficient / 10 ^ digits
pub record IsShortest (negative : Bool) (size scale coefficient digits : ℕ) : Type 0 where
  pub is : shortest_form negative size scale ≡ record { coefficient = with_sign negative coefficient; scale = digits }
  pub same : coefficient * 10 ^ scale ≡ size * 10 ^ digits
  pub ends : (digits ≡ 0) ⊎ (coefficient % 10 ≢ 0)
  pub smaller : coefficient ≤ size
  pub fewer : digits ≤ scale

tenth : (m size p : ℕ) (scale digits : ℕ) → m * 10 ^ scale ≡ size / 10 * 10 ^ digits → size % 10 ≡ 0 → m * 10 ^ suc scale ≡ size * 10 ^ digits
tenth m size p scale digits same zero-rest =
    let whole : size / 10 * 10 ≡ size = omega arith in
    rw (pow-suc 10 scale, ← mul_assoc m (10 ^ scale) 10, same, mul_right_comm (size / 10) (10 ^ digits) 10, whole) refl

by-last : (negative : Bool) (size scale : ℕ) (b : Bool) → (size % 10 == 0) ≡ b
    → ((coefficient : ℕ) × (digits : ℕ) × IsShortest negative (size / 10) scale coefficient digits)
    → (coefficient : ℕ) × (digits : ℕ) × IsShortest negative size (suc scale) coefficient digits
by-last negative size scale true test (m, s, form) =
    let rest : size % 10 ≡ 0 = grind (arith, nat_tests) in
    (m, s, record { is = rw test form.is; same = tenth m size 0 scale s form.same rest; ends = form.ends; smaller = let below = form.smaller in omega arith; fewer = let below = form.fewer in omega arith })
by-last negative size scale false test (m, s, form) =
    let rest : size % 10 ≢ 0 = grind (arith, nat_tests) in
    (size, suc scale, record { is = rw test refl; same = refl; ends = inr rest; smaller = omega arith; fewer = omega arith })

pub shortest-form : (negative : Bool) (size scale : ℕ) → (coefficient : ℕ) × (digits : ℕ) × IsShortest negative size scale coefficient digits
shortest-form negative size zero = (size, 0, record { is = refl; same = refl; ends = inl refl; smaller = omega arith; fewer = omega arith })
shortest-form negative size (suc scale) =
    by-last negative size scale (size % 10 == 0) refl (shortest-form negative (size / 10) scale)

-- ---- no other form has the value

pub power-above-zero : (k : ℕ) → 0 < 10 ^ k
power-above-zero k = let least : 1 ≤ 10 ^ k = one-le-pow k 10 (omega arith) in omega arith

-- more digits with a last one that isn't 0 are another value
longer : (m c s k : ℕ) → m * 10 ^ (s + suc k) ≡ c * 10 ^ s → c % 10 ≡ 0
longer m c s k same =
    let left : m * 10 ^ (s + suc k) ≡ m * 10 ^ k * 10 * 10 ^ s = rw (pow-add 10 s (suc k), pow-suc 10 k) (grouped m (10 ^ s) (10 ^ k)) in
    let equal : m * 10 ^ k * 10 ≡ c = eq_of_mul-eq-mul_right (10 ^ s) (power-above-zero s) (m * 10 ^ k * 10) c (sym left ∙ same) in
    rw (← equal) (mul-mod_left (m * 10 ^ k) 10)
  where
    grouped : (m p q : ℕ) → m * (p * (q * 10)) ≡ m * q * 10 * p
    grouped m p q =
        ap (λ x. m * x) (mul_comm p (q * 10)) ∙ sym (mul_assoc m (q * 10) p) ∙ ap (λ x. x * p) (sym (mul_assoc m q 10))

not-longer : (m c s t : ℕ) → s < t → m * 10 ^ t ≡ c * 10 ^ s → (t ≡ 0) ⊎ (c % 10 ≢ 0) → ⊥
not-longer m c s t more same ends =
    let k : ℕ = t - s - 1 in
    let split : t ≡ s + suc k = omega arith in
    ⊎_elim (λ none. omega arith) (λ other. other (longer m c s k (rw split at same))) ends

pub one-form : (m c s t : ℕ) → m * 10 ^ t ≡ c * 10 ^ s → (s ≡ 0) ⊎ (m % 10 ≢ 0) → (t ≡ 0) ⊎ (c % 10 ≢ 0) → (m ≡ c) × (s ≡ t)
one-form m c s t same first second =
    ⊎_elim (λ equal. (eq_of_mul-eq-mul_right (10 ^ t) (power-above-zero t) m c (rw equal at same), equal))
    (λ apart. absurd (⊎_elim (λ below. not-longer m c s t below same second) (λ above. not-longer c m t s above (sym same) first) apart))
    (cases_order s t)
