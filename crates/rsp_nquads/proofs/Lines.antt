-- A line in its parts.
use Rattle.std.proofs.Common.{◌≡◌, ℕ, List, [], ◌∷◌, ◌++◌, refl, append_assoc}
use Rattle.std.specs.Prelude.{codes}

pub line_in_parts : (old a b c d e s p o g : List ℕ) → a ≡ old ++ (s ++ codes " ") → b ≡ a ++ (p ++ codes " ") → c ≡ b ++ o → d ≡ c ++ g
    → e ≡ d ++ codes " .\n"
    → e ≡ old ++ ((s ++ (codes " " ++ (p ++ (codes " " ++ (o ++ (g ++ codes " .")))))) ++ (10 ∷ []))
line_in_parts old a b c d e s p o g ae be ce de ee = rw (ee, de, ce, be, ae) (simp append_assoc refl)
