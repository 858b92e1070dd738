-- The number that digits write, up to a bound.
use Rattle.std.proofs.Common.{◌≡◌, ◌≤◌, ◌+◌, ◌*◌, ℕ, List, [], ◌∷◌, min, ap, ◌⊎◌, inl, inr, arith}
use Rattle.std.specs.Char.{digit_value}
use Rattle.std.specs.Str.Parse.{digits_value_after}

-- digits only let a number grow
grows : (n : ℕ) (digits : List ℕ) → n ≤ digits_value_after 10 n digits
grows n [] = omega arith
grows n (c ∷ digits) = omega (arith, grows (n * 10 + digit_value c) digits)

same_capped : (x y most : ℕ) (digits : List ℕ) → (x ≡ y) ⊎ ((most ≤ x) × (most ≤ y))
    → min (digits_value_after 10 x digits) most ≡ min (digits_value_after 10 y digits) most
same_capped x y most digits (inl same) = ap (λ n. min (digits_value_after 10 n digits) most) same
same_capped x y most digits (inr past) = omega (arith, grows x digits, grows y digits, past.0, past.1)

pub capped_step : (n digit most x : ℕ) (digits : List ℕ) → x ≡ min (min (n * 10) most + digit) most
    → min (digits_value_after 10 x digits) most ≡ min (digits_value_after 10 (n * 10 + digit) digits) most
capped_step n digit most x digits is =
    same_capped x (n * 10 + digit) most digits (grind (arith, is))
