-- The size that digits write, up to a bound.
use Rattle.std.proofs.Common.{◌≡◌, ℕ, ◌+◌, ◌-◌, ◌*◌, ◌<◌, ◌≤◌, List, [], ◌∷◌, length, drop, get_or, Bool, true, false, drop-cons, add-one, sym, ap, ◌∙◌, arith, ⊎_elim}
use Rattle.std.specs.Prelude.{min, ◌&&◌}
use Rattle.std.proofs.lemmas.Bool.{cases_lt}
use Rattle.rsp_number.specs.Texts.{are_digits, number_after}

number_grows : (n : ℕ) (ds : List ℕ) → n ≤ number_after n ds
number_grows n [] = omega arith
number_grows n (d ∷ ds) = let later = number_grows (n * 10 + (d - 48)) ds in omega arith

pub bounded : (m bound : ℕ) (ds : List ℕ) → min (number_after (min m bound) ds) bound ≡ min (number_after m ds) bound
bounded m bound ds = ⊎_elim small large (cases_lt m bound)
  where
    small : m < bound → min (number_after (min m bound) ds) bound ≡ min (number_after m ds) bound
    small below = let same : min m bound ≡ m = omega arith in ap (λ n. min (number_after n ds) bound) same

    large : bound ≤ m → min (number_after (min m bound) ds) bound ≡ min (number_after m ds) bound
    large above =
        let same : min m bound ≡ bound = omega arith in
        let first = number_grows bound ds in
        let second = number_grows m ds in
        rw same (omega arith)

pub record Goes (next i bound : ℕ) (ds : List ℕ) (total : ℕ) : Type 0 where
  pub within : next ≤ bound
  pub digits : are_digits (drop (i + 1) ds) ≡ true
  pub value : min (number_after next (drop (i + 1) ds)) bound ≡ total

pub goes : (m next i bound : ℕ) (ds : List ℕ) (total : ℕ) → i < length ds
    → next ≡ min (m * 10 + (get_or ds i 0 - 48)) bound
    → are_digits (drop i ds) ≡ true → min (number_after m (drop i ds)) bound ≡ total → Goes next i bound ds total
goes m next i bound ds total below is digits value =
    let opened : drop i ds ≡ get_or ds i 0 ∷ drop (i + 1) ds = drop-cons ds i 0 below
    ∙ ap (λ k. get_or ds i 0 ∷ drop k ds) (sym (add-one i)) in
    record {
      within = rw is (omega arith);
      digits = others _ _ (sym (ap are_digits opened) ∙ digits);
      value =
          ap (λ n. min (number_after n (drop (i + 1) ds)) bound) is
          ∙ bounded (m * 10 + (get_or ds i 0 - 48)) bound (drop (i + 1) ds)
          ∙ sym (ap (λ xs. min (number_after m xs) bound) opened)
          ∙ value;
    }
  where
    others : (a b : Bool) → (a && b) ≡ true → b ≡ true
    others true b both = both
    others false b both = cc
