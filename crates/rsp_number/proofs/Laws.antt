-- The laws of `fit` and of readings, in terms of values.
use Rattle.std.specs.Prelude.{◌≡◌, ℕ, zero, suc, ◌*◌, ◌/◌, ◌^◌, ◌<◌, ◌≤◌, Bool, true, false, cond, ◌&&◌, nat_le, List, ◌++◌, length, Option, Some, None, MatchOption, ◌⊎◌, pos, ◌*ℤ◌, unsigned_abs, refl}
use Rattle.std.proofs.Common.{sym, ◌∙◌, ap, subst, inl, inr, ⊎_elim, arith}
use Rattle.std.proofs.lemmas.Int.{unsigned_abs-mul}
use Rattle.std.proofs.lemmas.Bool.{cases_lt}
use Rattle.std.proofs.lemmas.Bool.Decides.{nat_tests}
use Rattle.std.proofs.Math.Nat.{mul-one, mul_right_comm, zero-mul, eq_of_mul-eq-mul_right}
use Rattle.rsp_number.specs.Decimals.{largest, most_digits, Scaled, IsDecimal, with_sign, greatest, cut, fit_size}
use Rattle.rsp_number.specs.SecondReadings.{HasValue}
use Rattle.rsp_number.specs.SecondReadings.{IsFitOf}
use Rattle.rsp_number.specs.Texts.{has_decimal_form, is_negative, without_sign, before_point, behind_point, number_after, exact_decimal, value_or_beyond, read_decimal}
use Rattle.rsp_number.specs.SecondReadings.{IsWritten, IsReadExactly}
use Rattle.rsp_number.specs.declared.reading.Reading.{Reading}
use Rattle.rsp_number.specs.declared.reading.Reading.TheVariants.{NotForm}
use Rattle.rsp_number.proofs.Shortest.{power-above-zero, unsigned_abs-signed, IsShortest, shortest-form, one-form}

signed-times : (negative : Bool) (size factor : ℕ) → with_sign negative size *ℤ pos factor ≡ with_sign negative (size * factor)
signed-times false size factor = refl
signed-times true zero factor = rw (zero-mul factor) refl
signed-times true (suc size) factor = refl

-- the shortest form has the value
shortest-value : (negative : Bool) (size scale m s : ℕ) → IsShortest negative size scale m s
    → HasValue (record { coefficient = with_sign negative m; scale = s }) negative size scale
shortest-value negative size scale m s form =
    signed-times negative m (10 ^ scale) ∙ ap (with_sign negative) form.same ∙ sym (signed-times negative size (10 ^ s))

-- the shortest form is a decimal where it is within the ranges
shortest-decimal : (negative : Bool) (size scale m s : ℕ) → IsShortest negative size scale m s → m ≤ largest → s ≤ most_digits
    → IsDecimal (record { coefficient = with_sign negative m; scale = s })
shortest-decimal negative size scale m s form fits few = record {
  coefficient_fits = rw (unsigned_abs-signed negative m) fits;
  scale_fits = few;
  no_trailing_zero = rw (unsigned_abs-signed negative m) form.ends;
}

-- another decimal of the value is the shortest form
only-shortest : (negative : Bool) (size scale m s : ℕ) (number : Scaled) → IsShortest negative size scale m s → IsDecimal number
    → HasValue number negative size scale → (m ≤ largest) × (s ≤ most_digits)
only-shortest negative size scale m s number form is value =
    let c : ℕ = unsigned_abs number.coefficient in
    let t : ℕ = number.scale in
    let sizes : c * 10 ^ scale ≡ size * 10 ^ t =
    sym (unsigned_abs-mul number.coefficient (pos (10 ^ scale))) ∙ ap unsigned_abs (value ∙ signed-times negative size (10 ^ t))
    ∙ unsigned_abs-signed negative (size * 10 ^ t) in
    let same = one-form m c s t (crossed m c size (10 ^ scale) (10 ^ s) (10 ^ t) (power-above-zero scale) form.same sizes) form.ends is.no_trailing_zero in
    (rw same.0 is.coefficient_fits, rw same.1 is.scale_fits)
  where
    crossed : (m c size p q r : ℕ) → 0 < p → m * p ≡ size * q → c * p ≡ size * r → m * r ≡ c * q
    crossed m c size p q r positive first second =
        eq_of_mul-eq-mul_right p positive (m * r) (c * q)
        (mul_right_comm m r p ∙ ap (λ x. x * r) first ∙ mul_right_comm size q r ∙ ap (λ x. x * q) (sym second) ∙ mul_right_comm c p q)

-- ---- readings

exactly-form : (negative : Bool) (size scale m s : ℕ) → IsShortest negative size scale m s
    → exact_decimal negative size scale ≡ cond (nat_le s most_digits && nat_le m largest) (Some (record { coefficient = with_sign negative m; scale = s })) None
exactly-form negative size scale m s form = rw (form.is, unsigned_abs-signed negative m) refl

by-ranges : (negative : Bool) (size scale m s : ℕ) (test : Bool) → IsShortest negative size scale m s → (nat_le s most_digits && nat_le m largest) ≡ test
    → MatchOption (cond test (Some (record { coefficient = with_sign negative m; scale = s })) None)
    ((other : Scaled) → IsDecimal other → ¬ HasValue other negative size scale)
    (λ number. IsDecimal number × HasValue number negative size scale)
by-ranges negative size scale m s true form test =
    let few : s ≤ most_digits = grind (arith, nat_tests) in
    let fits : m ≤ largest = grind (arith, nat_tests) in
    (shortest-decimal negative size scale m s form fits few, shortest-value negative size scale m s form)
by-ranges negative size scale m s false form test = λ other is value.
    let both = only-shortest negative size scale m s other form is value in
    absurd (within-test s m both.1 both.0 test)
  where
    within-test : (s m : ℕ) → s ≤ most_digits → m ≤ largest → (nat_le s most_digits && nat_le m largest) ≡ false → ⊥
    within-test s m few fits test = grind (arith, nat_tests)

pub exactly-law : (negative : Bool) (size scale : ℕ)
    → MatchOption (exact_decimal negative size scale) ((other : Scaled) → IsDecimal other → ¬ HasValue other negative size scale)
    (λ number. IsDecimal number × HasValue number negative size scale)
exactly-law negative size scale =
    let form = shortest-form negative size scale in
    rw (exactly-form negative size scale form.0 form.1 form.2)
    (by-ranges negative size scale form.0 form.1 (nat_le form.1 most_digits && nat_le form.0 largest) form.2 refl)

-- ---- the cut

pub record IsGreatest (test : ℕ → Bool) (bound found : ℕ) : Type 0 where
  pub is : greatest test bound ≡ Some found
  pub few : found ≤ bound
  pub holds : test found ≡ true
  pub past : (t : ℕ) → found < t → t ≤ bound → test t ≡ false

pub record NoneHolds (test : ℕ → Bool) (bound : ℕ) : Type 0 where
  pub is : greatest test bound ≡ None
  pub fails : (t : ℕ) → t ≤ bound → test t ≡ false

first-test : (test : ℕ → Bool) (b : Bool) → test 0 ≡ b → NoneHolds test 0 ⊎ ((found : ℕ) × IsGreatest test 0 found)
unfolding greatest
first-test test true is = inr (0, record { is = rw is refl; few = omega arith; holds = is; past = λ t above within. absurd (omega arith) })
first-test test false is =
    inl (record { is = rw is refl; fails = λ t within. let first : t ≡ 0 = omega arith in rw first is })

next-test : (test : ℕ → Bool) (bound : ℕ) (b : Bool) → test (suc bound) ≡ b → NoneHolds test bound ⊎ ((found : ℕ) × IsGreatest test bound found)
    → NoneHolds test (suc bound) ⊎ ((found : ℕ) × IsGreatest test (suc bound) found)
unfolding greatest
next-test test bound true is below =
    inr (suc bound, record { is = rw is refl; few = omega arith; holds = is; past = λ t above within. absurd (omega arith) })
next-test test bound false is below =
    ⊎_elim
    (λ none. inl (record { is = rw is none.is; fails = λ t within. either-fails t within (none.fails t) }))
    (λ one. inr (
      one.0,
      record {
        is = rw is one.1.is;
        few = let few = one.1.few in omega arith;
        holds = one.1.holds;
        past = λ t above within. either-fails t within (one.1.past t above);
      },
    ))
    below
  where
    either-fails : (t : ℕ) → t ≤ suc bound → (t ≤ bound → test t ≡ false) → test t ≡ false
    either-fails t within fails =
        ⊎_elim (λ small. fails (omega arith)) (λ large. let last : t ≡ suc bound = omega arith in rw last is) (cases_lt t (suc bound))

pub greatest-or-none : (test : ℕ → Bool) (bound : ℕ) → NoneHolds test bound ⊎ ((found : ℕ) × IsGreatest test bound found)
greatest-or-none test zero = first-test test (test 0) refl
greatest-or-none test (suc bound) = next-test test bound (test (suc bound)) refl (greatest-or-none test bound)

-- what the test for a scale tells
fits-by-test : (n d s : ℕ) → nat_le (cut n d s) largest ≡ true → cut n d s ≤ largest
fits-by-test n d s test = grind (arith, nat_tests)

past-by-test : (n d s : ℕ) → nat_le (cut n d s) largest ≡ false → largest < cut n d s
past-by-test n d s test = grind (arith, nat_tests)

none-fits : (b : Bool) (n d : ℕ) → NoneHolds (λ scale. nat_le (cut n d scale) largest) most_digits → IsFitOf b n d (fit_size b n d)
none-fits b n d none =
    let first : cut n d 0 ≡ n / d = ap (λ m. m / d) (mul-one n) in
    rw none.is (rw first at (past-by-test n d 0 (none.fails 0 (omega arith))))

one-fits : (b : Bool) (n d s : ℕ) → IsGreatest (λ scale. nat_le (cut n d scale) largest) most_digits s → IsFitOf b n d (fit_size b n d)
one-fits b n d s one =
    let fits : cut n d s ≤ largest = fits-by-test n d s one.holds in
    let found = shortest-form b (cut n d s) s in
    let form = found.2 in
    let smaller = form.smaller in
    let fewer = form.fewer in
    let few : s ≤ most_digits = one.few in
    rw (one.is, form.is) (
      shortest-decimal b (cut n d s) s found.0 found.1 form (omega arith) (omega arith),
      (
        s,
        (
          record { few = few; fits = fits; greatest = λ other within other-fits. least other within other-fits },
          shortest-value b (cut n d s) s found.0 found.1 form,
        ),
      ),
    )
  where
    least : (other : ℕ) → other ≤ most_digits → cut n d other ≤ largest → other ≤ s
    least other within other-fits =
        ⊎_elim (λ above. let past = past-by-test n d other (one.past other above within) in absurd (omega arith)) (λ below. below) (cases_lt s other)

pub fit-law : (b : Bool) (n d : ℕ) → IsFitOf b n d (fit_size b n d)
fit-law b n d =
    ⊎_elim (none-fits b n d) (λ one. one-fits b n d one.0 one.1) (greatest-or-none (λ scale. nat_le (cut n d scale) largest) most_digits)

pub law-from : (b : Bool) (n d : ℕ) (result : Option Scaled) → result ≡ fit_size b n d → IsFitOf b n d result
law-from b n d result is = subst (λ r. IsFitOf b n d r) (sym is) (fit-law b n d)

-- ---- texts

read-by-form : (text : List ℕ) (form : Bool) → has_decimal_form text ≡ form
    → IsReadExactly text
    (cond form
    (value_or_beyond
    (exact_decimal (is_negative text) (number_after 0 (before_point (without_sign text) ++ behind_point (without_sign text)))
    (length (behind_point (without_sign text)))))
    NotForm)
read-by-form text true form =
    from-law text (exact_decimal (is_negative text) (number_after 0 (before_point (without_sign text) ++ behind_point (without_sign text))) (length (behind_point (without_sign text))))
    (exactly-law (is_negative text) (number_after 0 (before_point (without_sign text) ++ behind_point (without_sign text))) (length (behind_point (without_sign text))))
  where
    from-law : (text : List ℕ) (number : Option Scaled)
        → MatchOption number ((other : Scaled) → IsDecimal other → ¬ IsWritten text other) (λ d. IsDecimal d × IsWritten text d)
        → IsReadExactly text (value_or_beyond number)
    from-law text None law = law
    from-law text (Some number) law = law
read-by-form text false form = form

pub read-exactly : (text : List ℕ) (result : Reading Scaled) → result ≡ read_decimal text → IsReadExactly text result
read-exactly text result is = subst (λ r. IsReadExactly text r) (sym is) (read-by-form text (has_decimal_form text) refl)
