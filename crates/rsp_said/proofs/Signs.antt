-- Signs at the front and at the end of a text.
use Rattle.std.proofs.Common.{◌≡◌, ◌≢◌, ℕ, Bool, true, false, Option, None, Some, List, [], ◌∷◌, ◌++◌, refl, sym, ap, ◌∙◌}
use Rattle.std.specs.Prelude.{◌==◌, if◌then◌else◌}
use Rattle.std.specs.Option.{option_map}
use Rattle.std.proofs.lemmas.Bool.{eqb-true, eq-eqb}
use Rattle.std.specs.Prelude.{MatchOption}
use Rattle.rsp_scan.specs.Enclosed.{sign}
use Rattle.rsp_said.specs.Saying.{before_sign}

pub sign_none : (c : ℕ) (text : List ℕ) → ((rest : List ℕ) → text ≢ c ∷ rest) → sign c text ≡ None
unfolding sign
sign_none c [] never_so = refl
sign_none c (d ∷ ds) never_so = by (c == d) refl
  where
    by : (b : Bool) → (c == d) ≡ b → (if c == d then Some ds else None) ≡ None
    by true is = absurd (never_so ds (ap (λ x. x ∷ ds) (sym (eqb-true c d is))))
    by false is = rw is refl

pub sign_some : (c : ℕ) (text rest : List ℕ) → text ≡ c ∷ rest → sign c text ≡ Some rest
unfolding sign
sign_some c text rest is = ap (sign c) is ∙ ap (λ b. if b then Some rest else None) (eq-eqb c c refl)

pub before_some : (c : ℕ) (front : List ℕ) → before_sign c (front ++ (c ∷ [])) ≡ Some front
before_some c [] = ap (λ b. if b then Some [] else None) (eq-eqb c c refl)
before_some c (d ∷ []) = ap (option_map (λ front. d ∷ front)) (before_some c [])
before_some c (d ∷ (e ∷ more)) = ap (option_map (λ front. d ∷ front)) (before_some c (e ∷ more))

pub before_none : (c : ℕ) (text : List ℕ) → ((front : List ℕ) → text ≢ front ++ (c ∷ [])) → before_sign c text ≡ None
before_none c [] never_so = refl
before_none c (d ∷ []) never_so = by (c == d) refl
  where
    by : (b : Bool) → (c == d) ≡ b → before_sign c (d ∷ []) ≡ None
    by true is = absurd (never_so [] (ap (λ x. x ∷ []) (sym (eqb-true c d is))))
    by false is = rw is refl
before_none c (d ∷ (e ∷ more)) never_so =
    ap (option_map (λ front. d ∷ front)) (before_none c (e ∷ more) (λ front is. never_so (d ∷ front) (ap (λ xs. d ∷ xs) is)))

pub match_weaker : {A : Type 0} {P P' : Type 0} {Q Q' : A → Type 0} → (r : Option A) → (P → P') → ((x : A) → Q x → Q' x)
    → MatchOption r P Q → MatchOption r P' Q'
match_weaker None p q h = p h
match_weaker (Some x) p q h = q x h
