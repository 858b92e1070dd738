-- Fields one after another, and names in ASCII.
use Rattle.std.proofs.Common.{◌≡◌, ℕ, suc, ◌+◌, ◌<◌, Bool, true, false, cond, List, [], ◌∷◌, length, take, drop, refl, ap, sym, ◌∙◌, arith}
use Rattle.std.specs.Prelude.{◌≢◌, ◌==◌, ◌&&◌, not, nat_le, filter}
use Rattle.std.specs.List.{list_all, onto_first, position_or_len, prefix_len, slice_split}
use Rattle.std.specs.Str.{IsAscii}
use Rattle.std.proofs.lemmas.Bool.Decides.{nat_tests}
use Rattle.rsp_spec.proofs.Truths.{and_right, all_ascii}
use Rattle.rsp_events.specs.Directives.{is_name, is_name_character}

-- ---- fields between what passes a test

abbrev pub is_some_part : List ℕ → Bool
is_some_part part = not (length part == 0)

abbrev pub parted : (ℕ → Bool) → List ℕ → List (List ℕ)
parted p text = filter is_some_part (slice_split p text)

pub parted_behind : (p : ℕ → Bool) (xs : List ℕ) → parted p (drop (prefix_len p xs) xs) ≡ parted p xs
parted_behind p [] = refl
parted_behind p (x ∷ xs) =
    elim (p x) as (λ v. p x ≡ v
    → parted p (drop (cond v (1 + prefix_len p xs) 0) (x ∷ xs))
    ≡ filter is_some_part (cond v ([] ∷ slice_split p xs) (onto_first x (slice_split p xs)))) [
      | true ↦ λ e. let one : 1 + prefix_len p xs ≡ suc (prefix_len p xs) = omega arith in rw one (parted_behind p xs)
      | false ↦ λ e. rw e refl
    ] refl

stops : (p : ℕ → Bool) (xs : List ℕ) (c : ℕ) (cs : List ℕ) → drop (prefix_len p xs) xs ≡ c ∷ cs → p c ≡ false
stops p [] c cs is = grind arith
stops p (x ∷ xs) c cs is =
    elim (p x) as (λ v. p x ≡ v → drop (cond v (1 + prefix_len p xs) 0) (x ∷ xs) ≡ c ∷ cs → p c ≡ false) [
      | true ↦ λ e is. let one : 1 + prefix_len p xs ≡ suc (prefix_len p xs) = omega arith in stops p xs c cs (rw one at is)
      | false ↦ λ e is. grind arith
    ] refl is

-- the first part of a text, and the fields behind it
record First (p : ℕ → Bool) (xs : List ℕ) (n : ℕ) : Type 0 where
  pub more : List (List ℕ)
  pub is : slice_split p xs ≡ take n xs ∷ more
  pub rest : filter is_some_part more ≡ parted p (drop n xs)

first_part : (p : ℕ → Bool) (xs : List ℕ) → First p xs (position_or_len p xs)
first_part p [] = record { more = []; is = refl; rest = refl }
first_part p (x ∷ xs) =
    let r = first_part p xs in
    elim (p x) as (λ v. p x ≡ v → First p (x ∷ xs) (cond (not v) (1 + position_or_len p xs) 0)) [
      | true ↦ λ e. record { more = slice_split p xs; is = rw e refl; rest = rw e refl }
      | false ↦ λ e.
          let one : 1 + position_or_len p xs ≡ suc (position_or_len p xs) = omega arith in
          rw one (record { more = r.more; is = rw e (ap (onto_first x) r.is); rest = r.rest })
    ] refl

pub no_part : (p : ℕ → Bool) (xs ys : List ℕ) → ys ≡ drop (prefix_len p xs) xs → length ys ≡ 0 → parted p xs ≡ []
no_part p xs [] is none = sym (parted_behind p xs) ∙ ap (parted p) (sym is)
no_part p xs (y ∷ ys) is none = absurd (omega arith)

some_part : (x : ℕ) (xs : List ℕ) (more : List (List ℕ))
    → filter is_some_part ((x ∷ xs) ∷ more) ≡ (x ∷ xs) ∷ filter is_some_part more
some_part x xs more = let some : (suc (length xs) == 0) ≡ false = grind (arith, nat_tests) in rw some refl

pub next_part : (p : ℕ → Bool) (xs ys : List ℕ) (n : ℕ) → ys ≡ drop (prefix_len p xs) xs → length ys ≢ 0
    → n ≡ position_or_len p ys → parted p xs ≡ take n ys ∷ parted p (drop n ys)
next_part p xs [] n is some at = absurd (some refl)
next_part p xs (c ∷ cs) n is some at =
    let stop : p c ≡ false = stops p xs c cs (sym is) in
    let count : position_or_len p (c ∷ cs) ≡ suc (position_or_len p cs) = rw stop (omega arith) in
    let r : First p (c ∷ cs) (suc (position_or_len p cs)) = rw count at (first_part p (c ∷ cs)) in
    let here : n ≡ suc (position_or_len p cs) = at ∙ count in
    rw here
    (sym (parted_behind p xs) ∙ ap (parted p) (sym is)
    ∙ (ap (filter is_some_part) r.is
    ∙ (some_part c (take (position_or_len p cs) cs) r.more ∙ ap (λ rest. (c ∷ take (position_or_len p cs) cs) ∷ rest) r.rest)))

-- ---- ASCII

name_character_ascii : (c : ℕ) → is_name_character c ≡ true → c < 128
name_character_ascii c h = grind (arith, nat_tests)

pub name_ascii : (name : List ℕ) → is_name name ≡ true → IsAscii name
unfolding is_name
name_ascii name h =
    all_ascii is_name_character name_character_ascii name
    (and_right (nat_le 1 (length name) && nat_le (length name) 64) (list_all is_name_character name) h)
