-- More words behind a mode than its one value.
use Rattle.std.proofs.Common.{◌≡◌, ℕ, ◌≤◌, Bool, true, false, if◌then◌else◌, None, List, [], ◌∷◌, length, refl, arith}
use Rattle.rsp_words.specs.Words.{is_dashes, values}
use Rattle.rsp_words.specs.Asked.{only_value}

none_alone : (c d : Bool) (a b e : List ℕ) (more rest : List (List ℕ)) → None ≡ only_value (if c then b ∷ e ∷ more else a ∷ (if d then e ∷ more else b ∷ rest))
none_alone true d a b e more rest = refl
none_alone false true a b e more rest = refl
none_alone false false a b e more rest = refl

pub too_many_for_one : (words : List (List ℕ)) → 3 ≤ length words → None ≡ only_value (values words)
too_many_for_one [] many = absurd (omega (arith, many))
too_many_for_one (a ∷ []) many = absurd (omega (arith, many))
too_many_for_one (a ∷ b ∷ []) many = absurd (omega (arith, many))
too_many_for_one (a ∷ b ∷ e ∷ more) many = none_alone (is_dashes a) (is_dashes b) a b e more (values (e ∷ more))
