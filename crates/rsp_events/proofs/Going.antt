-- Lines of a body one after another: what is read so far, and where the first bad line stands.
use Rattle.std.proofs.Common.{◌≡◌, ℕ, suc, ◌+◌, ◌<◌, ◌≤◌, Bool, true, false, cond, List, [], ◌∷◌, ◌++◌, length, drop, get_or, refl, ap, sym, ◌∙◌, append_assoc, append-nil, arith}
use Rattle.std.specs.Prelude.{◌||◌, not, nat_lt, if◌then◌else◌}
use Rattle.std.specs.List.{flat_map, list_any, position_or_len}
use Rattle.std.proofs.lemmas.Grind.{common_steps}
use Rattle.std.proofs.lemmas.Bool.Decides.{nat_tests}
use Rattle.std.proofs.lemmas.List.{at_drop_more}

shifted : (a n : ℕ) → nat_lt (1 + a) (suc n) ≡ nat_lt a n
shifted a n = grind (arith, nat_tests)

-- the first place at which a test passes is within the list exactly where it passes somewhere
pub found_within : {A : Type 0} (p : A → Bool) (xs : List A) → nat_lt (position_or_len p xs) (length xs) ≡ list_any p xs
found_within p [] = refl
found_within p (x ∷ xs) =
    elim (p x) as (λ v. nat_lt (cond (not v) (1 + position_or_len p xs) 0) (suc (length xs)) ≡ (v || list_any p xs)) [
      | true ↦ grind (arith, nat_tests)
      | false ↦ shifted (position_or_len p xs) (length xs) ∙ found_within p xs
    ]

pub record Went {A : Type 0} (f : List ℕ → List A) (bad : List ℕ → Bool) (lines : List (List ℕ)) (i : ℕ) (got : List A) : Type 0 where
  pub whole : got ++ flat_map f (drop i lines) ≡ flat_map f lines
  pub any : list_any bad (drop i lines) ≡ list_any bad lines
  pub place : i + position_or_len bad (drop i lines) ≡ position_or_len bad lines

pub went_none : {A : Type 0} (f : List ℕ → List A) (bad : List ℕ → Bool) (lines : List (List ℕ)) (got : List A)
    → got ≡ [] → Went f bad lines 0 got
went_none f bad lines got none = rw none (record { whole = refl; any = refl; place = omega arith })

pub went_on : {A : Type 0} (f : List ℕ → List A) (bad : List ℕ → Bool) (lines : List (List ℕ)) (i : ℕ) (got now : List A) (line : List ℕ)
    → i < length lines → line ≡ get_or lines i line → bad line ≡ false → now ≡ got ++ f line → Went f bad lines i got
    → Went f bad lines (i + 1) now
went_on f bad lines i got now line below is good more w =
    let said : flat_map f (drop i lines) ≡ f line ++ flat_map f (drop (i + 1) lines)
    = rw (← is) at (at_drop_more (flat_map f) lines i line below) in
    let any : list_any bad (drop i lines) ≡ (bad line || list_any bad (drop (i + 1) lines))
    = rw (← is) at (at_drop_more (list_any bad) lines i line below) in
    let place : position_or_len bad (drop i lines) ≡ (if not (bad line) then 1 + position_or_len bad (drop (i + 1) lines) else 0)
    = rw (← is) at (at_drop_more (position_or_len bad) lines i line below) in
    let any_now : list_any bad (drop i lines) ≡ list_any bad (drop (i + 1) lines) = rw good at any in
    let place_now : position_or_len bad (drop i lines) ≡ 1 + position_or_len bad (drop (i + 1) lines) = rw good at place in
    let before = w.place in
    rw more
    (record {
      whole = append_assoc got (f line) (flat_map f (drop (i + 1) lines)) ∙ (ap (λ rest. got ++ rest) (sym said) ∙ w.whole);
      any = sym any_now ∙ w.any;
      place = omega arith;
    })

pub went_bad : {A : Type 0} (f : List ℕ → List A) (bad : List ℕ → Bool) (lines : List (List ℕ)) (i : ℕ) (got : List A) (line : List ℕ)
    → i < length lines → line ≡ get_or lines i line → bad line ≡ true → Went f bad lines i got
    → (list_any bad lines ≡ true) × (i ≡ position_or_len bad lines)
went_bad f bad lines i got line below is fault w =
    let any : list_any bad (drop i lines) ≡ (bad line || list_any bad (drop (i + 1) lines))
    = rw (← is) at (at_drop_more (list_any bad) lines i line below) in
    let place : position_or_len bad (drop i lines) ≡ (if not (bad line) then 1 + position_or_len bad (drop (i + 1) lines) else 0)
    = rw (← is) at (at_drop_more (position_or_len bad) lines i line below) in
    let any_now : list_any bad (drop i lines) ≡ true = rw fault at any in
    let place_now : position_or_len bad (drop i lines) ≡ 0 = rw fault at place in
    let before = w.place in
    (sym w.any ∙ any_now, omega arith)

pub went_all : {A : Type 0} (f : List ℕ → List A) (bad : List ℕ → Bool) (lines : List (List ℕ)) (i : ℕ) (got : List A)
    → length lines ≤ i → Went f bad lines i got → (list_any bad lines ≡ false) × (got ≡ flat_map f lines)
went_all f bad lines i got past w =
    let none : drop i lines ≡ [] = grind (arith, common_steps) in
    let any : list_any bad [] ≡ list_any bad lines = rw none at w.any in
    let whole : got ++ [] ≡ flat_map f lines = rw none at w.whole in
    (sym any, sym (append-nil got) ∙ whole)
