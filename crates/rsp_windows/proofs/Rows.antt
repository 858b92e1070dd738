-- The instants that are both a closing and a multiple of the period stand in one row, or there are none.
use Rattle.std.specs.Prelude.{◌≡◌, ℕ, ◌+◌, ◌-◌, ◌*◌, ◌^◌, ◌/◌, ◌%◌, ◌<◌, ◌≤◌, None, Some}
use Rattle.std.proofs.Common.{arith, ap, inl, inr}
use Rattle.std.proofs.Math.Nat.{div-le_self, mul-le-mul_right, le-mul_of_pos_right}
use Rattle.std.proofs.lemmas.Bool.{cases_lt}
use Rattle.std.proofs.lemmas.Nat.{mul-le, mod_below, div-add-mod'}
use Rattle.rsp_spec.specs.Instants.{IsLeastIn}
use Rattle.rsp_windows.specs.Congruences.{IsShared, IsRow, IsBezout}
use Rattle.rsp_windows.proofs.Divisors.{exact, multiple_is_whole}

apart_of : (x r s p : ℕ) → x + r * p ≡ s * p → x ≡ (s - r) * p
apart_of x r s p is = elim (cases_lt s r) [
  | inl below ↦ let none : s - r ≡ 0 = omega (arith, below) in
      let low : s * p ≤ r * p = mul-le-mul_right p (omega (arith, below)) in rw none (omega (arith, is, low))
  | inr above ↦ let more : s ≡ r + (s - r) = omega (arith, above) in omega (arith, is, ap (λ y. y * p) more)
]

cancelled : (x y g : ℕ) → 0 < g → x * g ≡ y * g → x ≡ y
cancelled x y g low is = elim (cases_lt x y) [
  | inl less ↦ let more : (x + 1) * g ≤ y * g = mul-le-mul_right g (omega (arith, less)) in absurd (omega (arith, more, is, low))
  | inr other ↦ elim (cases_lt y x) [
    | inl less ↦ let more : (y + 1) * g ≤ x * g = mul-le-mul_right g (omega (arith, less)) in absurd (omega (arith, more, is, low))
    | inr same ↦ omega (arith, other, same)
  ]
]

solved : (base slide period g u v c m k q a p n : ℕ) → slide ≡ a * g → period ≡ p * g → u * slide ≡ g + v * period
    → base + m ≡ c * period → m ≡ n * g → q * p + k ≡ n * u → base + k * slide + q * a * period ≡ (c + n * v) * period
solved base slide period g u v c m k q a p n slide_is period_is meets missing m_is k_is =
    omega (arith, missing, m_is, ap (λ x. x * slide) k_is, ap (λ x. n * x) meets, ap (λ x. q * p * x) slide_is, ap (λ x. q * a * x) period_is)

turns : (slide period g p u v d e : ℕ) → 0 < g → period ≡ p * g → u * slide ≡ g + v * period → d * slide ≡ e * period
    → d ≡ (u * e - d * v) * p
turns slide period g p u v d e low period_is meets is =
    apart_of d (d * v) (u * e) p
    (cancelled (d + d * v * p) (u * e * p) g low
    (omega (arith, ap (λ x. d * x) meets, ap (λ x. u * x) is, ap (λ x. d * v * x) period_is, ap (λ x. u * e * x) period_is)))

no_small_multiple : (d j p : ℕ) → 0 < d → d < p → d ≡ j * p → ⊥
no_small_multiple d j p some below is = elim (cases_lt 0 j) [
  | inl more ↦ let high : 1 * p ≤ j * p = mul-le-mul_right p more in omega (arith, high, is, below)
  | inr none ↦ let zero_turns : j ≡ 0 = omega (arith, none) in omega (arith, is, some, ap (λ x. x * p) zero_turns)
]

row_at : (base slide period g u v k a p f : ℕ) → 0 < slide → 0 < period → 0 < g → slide ≡ a * g → period ≡ p * g
    → u * slide ≡ g + v * period → k < p → base + k * slide ≡ f * period → IsRow base slide period (base + k * slide) (p * slide)
row_at base slide period g u v k a p f slide_low period_low g_low slide_is period_is meets small first_is = record {
  moves = omega (arith, small, le-mul_of_pos_right p slide_low);
  sound = λ j. record {
    number = k + j * p;
    closes = omega arith;
    divides = multiple_is_whole _ (f + j * a) period period_low
        (omega (arith, first_is, ap (λ x. j * p * x) slide_is, ap (λ x. j * a * x) period_is));
  };
  whole = λ t shared.
      let t_is : t ≡ t / period * period = exact t period shared.divides in
      elim (cases_lt shared.number k) [
        | inl before ↦
            let apart : k ≡ shared.number + (k - shared.number) = omega (arith, before) in
            let is : (k - shared.number) * slide + t / period * period ≡ f * period
            = omega (arith, first_is, shared.closes, t_is, ap (λ x. x * slide) apart) in
            absurd (no_small_multiple (k - shared.number) _ p (omega (arith, before)) (omega (arith, small))
            (turns slide period g p u v (k - shared.number) (f - t / period) g_low period_is meets (apart_of _ (t / period) f period is)))
        | inr after ↦
            let apart : shared.number ≡ k + (shared.number - k) = omega (arith, after) in
            let is : (shared.number - k) * slide + f * period ≡ t / period * period
            = omega (arith, first_is, shared.closes, t_is, ap (λ x. x * slide) apart) in
            let d_is : shared.number - k ≡ (u * (t / period - f) - (shared.number - k) * v) * p
            = turns slide period g p u v (shared.number - k) (t / period - f) g_low period_is meets (apart_of _ f (t / period) period is) in (
              u * (t / period - f) - (shared.number - k) * v,
              omega (arith, shared.closes, ap (λ x. x * slide) apart, ap (λ x. x * slide) d_is),
            )
      ];
}

turn_low : (period g : ℕ) → 0 < period → period % g ≡ 0 → 0 < period / g
turn_low period g low whole = elim (cases_lt 0 (period / g)) [
  | inl more ↦ more
  | inr none ↦
      let period_is : period ≡ period / g * g = exact period g whole in
      let zero_turns : period / g ≡ 0 = omega (arith, none) in absurd (omega (arith, low, period_is, ap (λ x. x * g) zero_turns))
]

-- how far a row's first instant and its step reach, for any number of slides that is cut by whole turns
pub row_sizes : (base slide period g number : ℕ) → 0 < period → period % g ≡ 0 → base ≤ 2 ^ 49 → slide ≤ 2 ^ 48 → period ≤ 2 ^ 48
    → (base + number % (period / g) * slide ≤ 2 ^ 97) × (period / g * slide ≤ 2 ^ 96)
row_sizes base slide period g number low whole base_high slide_high period_high =
    let less = div-le_self period g in
    let turn_high : period / g ≤ 2 ^ 48 = omega (arith, less) in
    let below = mod_below number (period / g) (turn_low period g low whole) in
    let number_high : number % (period / g) ≤ 2 ^ 48 = omega (arith, below, turn_high) in
    let reach : number % (period / g) * slide ≤ 2 ^ 48 * 2 ^ 48 = mul-le _ _ (2 ^ 48) (2 ^ 48) number_high slide_high in
    let step : period / g * slide ≤ 2 ^ 48 * 2 ^ 48 = mul-le _ _ (2 ^ 48) (2 ^ 48) turn_high slide_high in
    (omega (arith, reach), omega (arith, step))

-- `missing` leads from the base to a multiple of the period; so many times the coefficient, cut by whole turns
pub row_from : (base slide period g u v c m : ℕ) → 0 < slide → 0 < period → IsBezout slide period g u v → base % g ≡ 0
    → base + m ≡ c * period
    → IsRow base slide period (base + m / g * u % (period / g) * slide) (period / g * slide)
row_from base slide period g u v c m slide_low period_low common whole missing =
    let slide_is : slide ≡ slide / g * g = exact slide g common.left in
    let period_is : period ≡ period / g * g = exact period g common.right in
    let base_is : base ≡ base / g * g = exact base g whole in
    let m_is : m ≡ (c * (period / g) - base / g) * g
    = apart_of m (base / g) (c * (period / g)) g (omega (arith, missing, base_is, ap (λ x. c * x) period_is)) in
    let m_exact : m ≡ m / g * g = exact m g (multiple_is_whole m _ g common.positive m_is) in
    let small : m / g * u % (period / g) < period / g = mod_below (m / g * u) (period / g) (turn_low period g period_low common.right) in
    let k_is : m / g * u / (period / g) * (period / g) + m / g * u % (period / g) ≡ m / g * u = div-add-mod' (m / g * u) (period / g) in
    row_at base slide period g u v (m / g * u % (period / g)) (slide / g) (period / g) _ slide_low period_low common.positive slide_is period_is common.meets small
    (apart_of _ (m / g * u / (period / g) * (slide / g)) (c + m / g * v) period
    (solved base slide period g u v c m (m / g * u % (period / g)) (m / g * u / (period / g)) (slide / g) (period / g) (m / g) slide_is period_is common.meets missing m_exact k_is))

pub none_shared : (base slide period g u v : ℕ) → IsBezout slide period g u v → (base % g ≡ 0 → ⊥) → (t : ℕ)
    → IsShared base slide period t → ⊥
none_shared base slide period g u v common apart t shared =
    let slide_is : slide ≡ slide / g * g = exact slide g common.left in
    let period_is : period ≡ period / g * g = exact period g common.right in
    let t_is : t ≡ t / period * period = exact t period shared.divides in
    apart (multiple_is_whole base _ g common.positive
    (apart_of base (shared.number * (slide / g)) (t / period * (period / g)) g
    (omega (arith, shared.closes, t_is, ap (λ x. shared.number * x) slide_is, ap (λ x. t / period * x) period_is))))

pub least_in_row : (base slide period first step from to at : ℕ) → IsRow base slide period first step → from ≤ at → at ≤ to
    → (j : ℕ) × (at ≡ first + j * step) → ((j : ℕ) → from ≤ first + j * step → at ≤ first + j * step)
    → IsLeastIn (IsShared base slide period) from to (Some at)
least_in_row base slide period first step from to at row late high (j, on) least = (
  late,
  high,
  rw on (row.sound j),
  λ t low shared. let place = row.whole t shared in rw place.1 (least place.0 (rw place.1 at low)),
)

pub none_in_row : (base slide period first step from to at : ℕ) → IsRow base slide period first step → to < at
    → ((j : ℕ) → from ≤ first + j * step → at ≤ first + j * step) → IsLeastIn (IsShared base slide period) from to None
none_in_row base slide period first step from to at row beyond least = λ t low high shared.
    let place = row.whole t shared in omega (arith, least place.0 (rw place.1 at low), place.1, high, beyond)
