-- A window closes where a whole number of slides has gone since the first closing.
use Rattle.std.specs.Prelude.{◌≡◌, ℕ, ◌+◌, ◌-◌, ◌*◌, ◌/◌, ◌%◌, ◌<◌, ◌≤◌, false, nat_eq}
use Rattle.std.specs.Bool.{Decides}
use Rattle.std.proofs.Common.{arith}
use Rattle.std.proofs.lemmas.Bool.Decides.{nat_tests, same_from_decides}
use Rattle.rsp_spec.specs.Windows.{Shape, closing, closes_at}
use Rattle.rsp_spec.proofs.WindowLaws.{closes_at_is}

whole_slides : (w : Shape) (t : ℕ) → 1 ≤ w.slide → w.origin + w.width ≤ t
    → Decides (nat_eq ((t - (w.origin + w.width)) % w.slide) 0) ((k : ℕ) × (closing w k ≡ t))
whole_slides w t slide from = (
  λ whole. ((t - (w.origin + w.width)) / w.slide, grind (arith, nat_tests)),
  λ (k, is). let since : t - (w.origin + w.width) ≡ k * w.slide = omega (arith, is) in rw since (grind (arith, nat_tests)),
)

pub closes_from_first : (w : Shape) (t : ℕ) → 1 ≤ w.slide → w.origin + w.width ≤ t
    → nat_eq ((t - (w.origin + w.width)) % w.slide) 0 ≡ closes_at w t
closes_from_first w t slide from = same_from_decides _ _ (whole_slides w t slide from) (closes_at_is w t slide)

pub none_closes_before : (w : Shape) (t : ℕ) → 1 ≤ w.slide → t < w.origin + w.width → false ≡ closes_at w t
none_closes_before w t slide before =
    same_from_decides _ _ (λ none. absurd (grind arith), λ (k, is). absurd (omega (arith, is))) (closes_at_is w t slide)
