-- The order of fractions is that of their units.
use Rattle.std.specs.Prelude.{◌≡◌, ℕ, ◌+◌, ◌*◌, ◌^◌, ◌<◌, ◌≤◌, true, false, ℤ, pos, ◌*ℤ◌, ◌<ℤ◌, ◌≤ℤ◌, int_lt, refl}
use Rattle.std.specs.Cmp.{IsTotalOrder, int_cmp_total}
use Rattle.std.specs.Ordering.{int_cmp}
use Rattle.std.proofs.Common.{sym, ◌∙◌, ap, arith}
use Rattle.std.proofs.lemmas.Int.{ints, by_lt_z}
use Rattle.std.proofs.lemmas.Nat.{mul-le}
use Rattle.std.proofs.Math.Nat.{mul_comm, add-mul, one-mul}
use borrow.Author.Differences.{up, down}
use Rattle.rsp_number.specs.Numbers.{value_of, comparison}
use Rattle.rsp_number.specs.declared.number.Number.{Number}
use Rattle.rsp_number.specs.declared.number.Number.TheVariants.{Integer, Decimal}
use Rattle.rsp_number.proofs.Shortest.{power-above-zero}
use Rattle.rsp_number.proofs.Summing.{up-times, down-times}
use Rattle.rsp_number.proofs.Tallying.{times-times}

pub denominator-above-zero : (number : Number) → 0 < (value_of number).denominator
denominator-above-zero (Integer n) = omega arith
denominator-above-zero (Decimal d) = power-above-zero d.scale

less-is : (x y : ℤ) → x <ℤ y → int_lt x y ≡ true
less-is x y below = grind (arith, ints)

not-less-is : (x y : ℤ) → y ≤ℤ x → int_lt x y ≡ false
not-less-is x y above = grind (arith, ints)

-- (a + b) * k and (c + d) * k, part by part
parts : (a b c d k : ℕ) → a + b ≤ c + d → a * k + b * k ≤ c * k + d * k
parts a b c d k within =
    let grown = mul-le (a + b) k (c + d) k within (omega arith) in
    omega (arith, add-mul a b k, add-mul c d k)

parts-less : (a b c d k : ℕ) → 0 < k → a + b < c + d → a * k + b * k < c * k + d * k
parts-less a b c d k positive below =
    let grown = mul-le (a + b + 1) k (c + d) k (omega arith) (omega arith) in
    omega (arith, add-mul (a + b) 1 k, one-mul k, add-mul a b k, add-mul c d k)

scaled-below : (a b : ℤ) (k : ℕ) → 0 < k → a <ℤ b → (a *ℤ pos k) <ℤ (b *ℤ pos k)
scaled-below a b k positive below =
    let sides : up a + down b < up b + down a = omega (arith, ints) in
    let grown = parts-less (up a) (down b) (up b) (down a) k positive sides in
    omega (arith, ints, grown, up-times a k, up-times b k, down-times a k, down-times b k)

scaled-above : (a b : ℤ) (k : ℕ) → b ≤ℤ a → (b *ℤ pos k) ≤ℤ (a *ℤ pos k)
scaled-above a b k above =
    let sides : up b + down a ≤ up a + down b = omega (arith, ints) in
    let grown = parts (up b) (down a) (up a) (down b) k sides in
    omega (arith, ints, grown, up-times a k, up-times b k, down-times a k, down-times b k)

scaled-less : (a b : ℤ) (k : ℕ) → 0 < k → int_lt (a *ℤ pos k) (b *ℤ pos k) ≡ int_lt a b
scaled-less a b k positive =
    by_lt_z a b
    (λ below. less-is _ _ (scaled-below a b k positive below) ∙ sym (less-is a b below))
    (λ above. not-less-is _ _ (scaled-above a b k above) ∙ sym (not-less-is a b above))

scaled-order : (a b : ℤ) (k : ℕ) → 0 < k → int_cmp (a *ℤ pos k) (b *ℤ pos k) ≡ int_cmp a b
scaled-order a b k positive = rw (scaled-less a b k positive, scaled-less b a k positive) refl

product-above-zero : (d e : ℕ) → 0 < d → 0 < e → 0 < d * e
product-above-zero d e first second = let least = mul-le 1 1 d e first second in omega arith

pub order-by-units : (m n u v : ℤ) (d e : ℕ) → 0 < d → 0 < e → u *ℤ pos d ≡ m *ℤ pos (10 ^ 18) → v *ℤ pos e ≡ n *ℤ pos (10 ^ 18)
    → int_cmp u v ≡ int_cmp (m *ℤ pos e) (n *ℤ pos d)
order-by-units m n u v d e first second left right =
    sym (scaled-order u v (d * e) (product-above-zero d e first second))
    ∙ (λ i. int_cmp (side u m d e left i) ((ap (λ k. v *ℤ pos k) (mul_comm d e) ∙ side v n e d right) i))
    ∙ scaled-order (m *ℤ pos e) (n *ℤ pos d) (10 ^ 18) (omega arith)
  where
    side : (u m : ℤ) (d e : ℕ) → u *ℤ pos d ≡ m *ℤ pos (10 ^ 18) → u *ℤ pos (d * e) ≡ (m *ℤ pos e) *ℤ pos (10 ^ 18)
    side u m d e is =
        sym (times-times u d e) ∙ ap (λ z. z *ℤ pos e) is ∙ times-times m (10 ^ 18) e
        ∙ ap (λ k. m *ℤ pos k) (mul_comm (10 ^ 18) e) ∙ sym (times-times m e (10 ^ 18))

-- ---- the order is total: any three numbers compare as they do over one denominator

exchange : (z : ℤ) (j k : ℕ) → (z *ℤ pos j) *ℤ pos k ≡ (z *ℤ pos k) *ℤ pos j
exchange z j k = times-times z j k ∙ ap (λ n. z *ℤ pos n) (mul_comm j k) ∙ sym (times-times z k j)

-- the numerator of the first over the denominators of all three
abbrev over_all : Number → Number → Number → ℤ
over_all x y z =
    ((value_of x).numerator *ℤ pos (value_of y).denominator) *ℤ pos (value_of z).denominator

first-second : (x y z : Number) → comparison x y ≡ int_cmp (over_all x y z) (over_all y x z)
first-second x y z = sym (scaled-order _ _ _ (denominator-above-zero z))

second-third : (x y z : Number) → comparison y z ≡ int_cmp (over_all y x z) (over_all z x y)
second-third x y z =
    first-second y z x
    ∙ (λ i. int_cmp (exchange (value_of y).numerator (value_of z).denominator (value_of x).denominator i)
    (exchange (value_of z).numerator (value_of y).denominator (value_of x).denominator i))

first-third : (x y z : Number) → comparison x z ≡ int_cmp (over_all x y z) (over_all z x y)
first-third x y z =
    first-second x z y
    ∙ (λ i. int_cmp (exchange (value_of x).numerator (value_of z).denominator (value_of y).denominator i) (over_all z x y))

pub comparison-total : IsTotalOrder comparison
comparison-total = record {
  antisymm = λ x y. int_cmp_total.antisymm ((value_of x).numerator *ℤ pos (value_of y).denominator) ((value_of y).numerator *ℤ pos (value_of x).denominator);
  trans = λ x y z below above.
      first-third x y z ∙ int_cmp_total.trans (over_all x y z) (over_all y x z) (over_all z x y) (sym (first-second x y z) ∙ below) (sym (second-third x y z) ∙ above);
  congr = λ x y z same.
      first-third x y z ∙ int_cmp_total.congr (over_all x y z) (over_all y x z) (over_all z x y) (sym (first-second x y z) ∙ same) ∙ sym (second-third x y z);
}
