-- Two texts that aren't the same test unequal.
use Rattle.std.proofs.Common.{◌≡◌, ℕ, Bool, true, false, List, refl}
use Rattle.std.specs.Str.{bytes_eq}
use Rattle.std.specs.Cmp.Lexicographic.{bytes_decides}

by_test : (b : Bool) (left right : List ℕ) → bytes_eq left right ≡ b → (left ≡ right → ⊥) → b ≡ false
by_test true left right equal differ = absurd (differ ((bytes_decides left right).0 equal))
by_test false left right equal differ = refl

pub not_equal : (left right : List ℕ) → (left ≡ right → ⊥) → bytes_eq left right ≡ false
not_equal left right differ = by_test (bytes_eq left right) left right refl differ
