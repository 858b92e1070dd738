-- Powers of ten up to the greatest that a decimal's scale gives.
use Rattle.std.specs.Prelude.{◌≡◌, ℕ, ◌^◌, ◌≤◌}
use Rattle.std.proofs.Common.{arith}
use Rattle.std.proofs.Math.Nat.{pow-le-pow_right, one-le-pow}

pub power-above-zero : (s p : ℕ) → p ≡ 10 ^ s → 1 ≤ p
power-above-zero s p is = let least : 1 ≤ 10 ^ s = one-le-pow s 10 (omega arith) in omega arith

pub power-within : (s p : ℕ) → s ≤ 18 → p ≡ 10 ^ s → p ≤ 10 ^ 18
power-within s p within is = let most : 10 ^ s ≤ 10 ^ 18 = pow-le-pow_right (omega arith) within in omega arith
