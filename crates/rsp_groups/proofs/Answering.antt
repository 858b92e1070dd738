-- How the rows of all groups change where some groups do: by the rows of these before and after.
use Rattle.std.proofs.Common.{◌≡◌, ℕ, zero, suc, Bool, true, false, not, ◌||◌, true≢false, List, [], ◌∷◌, ℤ, pos, ◌+ℤ◌, length, map, filter, refl, sym, ap, subst, ◌∙◌, arith, Decides}
use Rattle.std.specs.Prelude.{Option, None, IsSome, nat_lt}
use Rattle.std.specs.Bool.{then_some}
use Rattle.std.specs.Map.{lookup}
use Rattle.std.proofs.lemmas.Bool.Decides.{nat_tests}
use Rattle.std.specs.List.{AllByRecursion, IsDistinct, list_any}
use Rattle.std.proofs.lemmas.Int.{ints}
use Rattle.rsp_expr.specs.Groups.{group_keys, group_of, with_values}
use Rattle.rsp_groups.specs.Answers.{is_group, with_cells, MayTouch}
use Rattle.rsp_groups.specs.Moves.{columns, results_over}
use Rattle.rsp_groups.specs.Standing.{GroupsStand}
use Rattle.rsp_groups.proofs.Keyed.{none-left, some-left}
use Rattle.rsp_multiset.specs.Rows.{Cells, row_eq}
use Rattle.rsp_multiset.specs.RowSame.{row_decides}
use Rattle.rsp_multiset.specs.Shown.{shown_row, IsKnown, AreToldApart}
use Rattle.rsp_multiset.specs.Variables.{row_by, projection, extension}
use Rattle.rsp_multiset.specs.Weights.{sum_z, only, times, IsSameMultiset}
use Rattle.rsp_multiset.proofs.Linear.{sum-same}
use Rattle.rsp_multiset.proofs.SameLists.{once-times}
use Rattle.rsp_multiset.proofs.Shown.{tested-shown, rows-told_apart, row_by-shown}
use Rattle.rsp_multiset.proofs.Sums.{sum_z-map, sum_z-filter, sum_z-alike, sum_z-plus}
use Rattle.rsp_terms.specs.declared.term.Term.{Term}
use Rattle.rsp_terms.specs.Same.{term_eq, term_same}

abbrev same_row : Cells Term → Cells Term → Bool
same_row = row_eq term_eq

abbrev among_rows : List (Cells Term) → Cells Term → Bool
among_rows rows q = list_any (same_row q) rows

-- each element is there once
abbrev pub IsOnce : (Cells Term → Bool) → List (Cells Term) → Type 0
IsOnce there rows = (q : Cells Term) → times same_row rows q ≡ only (there q) (pos 1)

decides : (a b : Cells Term) → Decides (same_row a b) (a ≡ b)
decides = row_decides term_same

-- ---- filters of lists that hold each element once

only-both : (b c : Bool) → only b (only c (pos 1)) ≡ only c (only b (pos 1))
only-both true c = refl
only-both false true = refl
only-both false false = refl

module _ (p : Cells Term → Bool) where
  here_only : (q x : Cells Term) → only (p x) (only (same_row q x) (pos 1)) ≡ only (p q) (only (same_row q x) (pos 1))
  here_only q x = by (same_row q x) refl
    where
      by : (b : Bool) → same_row q x ≡ b → only (p x) (only b (pos 1)) ≡ only (p q) (only b (pos 1))
      by true is = ap (λ z. only (p z) (pos 1)) (sym ((decides q x).0 is))
      by false is = none (p x) ∙ sym (none (p q))
        where
          none : (c : Bool) → only c (pos 0) ≡ pos 0
          none true = refl
          none false = refl

  only-sum : (c : Bool) (q : Cells Term) (rows : List (Cells Term))
      → sum_z (λ x. only c (only (same_row q x) (pos 1))) rows ≡ only c (times same_row rows q)
  only-sum true q rows = refl
  only-sum false q [] = refl
  only-sum false q (x ∷ rows) = let rest = only-sum false q rows in omega (arith, ints, rest)

  filter-once : (there : Cells Term → Bool) (rows : List (Cells Term)) → IsOnce there rows → (q : Cells Term)
      → times same_row (filter p rows) q ≡ only (p q) (only (there q) (pos 1))
  filter-once there rows once q =
      sum_z-filter (λ x. only (same_row q x) (pos 1)) p rows
      ∙ (sum_z-alike _ _ (here_only q) rows ∙ (only-sum (p q) q rows ∙ ap (only (p q)) (once q)))

-- two lists, each filtered by the other
both-ways : (there there' : Cells Term → Bool) (rows others : List (Cells Term)) → IsOnce there rows → IsOnce there' others
    → IsSameMultiset same_row (filter there' rows) (filter there others)
both-ways there there' rows others once once' q =
    filter-once there' there rows once q ∙ (only-both (there' q) (there q) ∙ sym (filter-once there there' others once' q))

-- ---- the rows of groups

module _ (keys_before keys_after touched : List (Cells Term)) (there_before there_after there : Cells Term → Bool)
    (row_before row_after : Cells Term → Cells Term)
    (once_before : IsOnce there_before keys_before) (once_after : IsOnce there_after keys_after) (once : IsOnce there touched)
    (stays : (q : Cells Term) → there q ≡ false → (there_after q ≡ there_before q) × (row_after q ≡ row_before q)) where
  abbrev counts : Cells Term → (Cells Term → Cells Term) → Cells Term → ℤ
  counts q row key = only (same_row q (row key)) (pos 1)

  both_parts : (b : Bool) (n : ℤ) → only b n +ℤ only (not b) n ≡ n
  both_parts true n = omega (arith, ints)
  both_parts false n = omega (arith, ints)

  -- touched keys and others
  parted : (f : Cells Term → ℤ) (rows : List (Cells Term)) → sum_z f rows ≡ sum_z f (filter there rows) +ℤ sum_z f (filter (λ x. not (there x)) rows)
  parted f rows =
      let first = sum_z-filter f there rows in
      let second = sum_z-filter f (λ x. not (there x)) rows in
      let sum = sum_z-plus (λ x. only (there x) (f x)) (λ x. only (not (there x)) (f x)) rows in
      let whole = sum_z-alike (λ x. only (there x) (f x) +ℤ only (not (there x)) (f x)) f (λ x. both_parts (there x) (f x)) rows in
      omega (arith, ints, first, second, sum, whole)

  untouched : (q : Cells Term) → not (there q) ≡ true → there q ≡ false
  untouched q h = by (there q) h
    where
      by : (b : Bool) → not b ≡ true → b ≡ false
      by true h = absurd (true≢false (sym h))
      by false h = refl

  others_same : IsSameMultiset same_row (filter (λ x. not (there x)) keys_after) (filter (λ x. not (there x)) keys_before)
  others_same q =
      filter-once (λ x. not (there x)) there_after keys_after once_after q
      ∙ (by (there q) refl ∙ sym (filter-once (λ x. not (there x)) there_before keys_before once_before q))
    where
      by : (b : Bool) → there q ≡ b → only (not b) (only (there_after q) (pos 1)) ≡ only (not b) (only (there_before q) (pos 1))
      by true is = refl
      by false is = ap (λ c. only c (pos 1)) (stays q is).0

  others_alike : (q : Cells Term) (x : Cells Term) → only (not (there x)) (counts q row_after x) ≡ only (not (there x)) (counts q row_before x)
  others_alike q x = by (there x) refl
    where
      by : (b : Bool) → there x ≡ b → only (not b) (counts q row_after x) ≡ only (not b) (counts q row_before x)
      by true is = refl
      by false is = ap (λ r. only (same_row q r) (pos 1)) (stays x is).1

  pub rows-changed : (q : Cells Term) → times same_row (map row_after keys_after) q +ℤ times same_row (map row_before (filter there_before touched)) q
      ≡ times same_row (map row_before keys_before) q +ℤ times same_row (map row_after (filter there_after touched)) q
  rows-changed q =
      let counted = λ (r : Cells Term). only (same_row q r) (pos 1) in
      let after = sum_z-map counted row_after keys_after in
      let before = sum_z-map counted row_before keys_before in
      let touched_after = sum_z-map counted row_after (filter there_after touched) in
      let touched_before = sum_z-map counted row_before (filter there_before touched) in
      let parts_after = parted (counts q row_after) keys_after in
      let parts_before = parted (counts q row_before) keys_before in
      let inner_after = sum-same decides (counts q row_after) (filter there keys_after) (filter there_after touched) (both-ways there_after there keys_after touched once_after once) in
      let inner_before = sum-same decides (counts q row_before) (filter there keys_before) (filter there_before touched) (both-ways there_before there keys_before touched once_before once) in
      let outer = sum-same decides (counts q row_before) (filter (λ x. not (there x)) keys_after) (filter (λ x. not (there x)) keys_before) others_same in
      let outer_after = sum_z-filter (counts q row_after) (λ x. not (there x)) keys_after in
      let outer_alike = sum_z-alike _ _ (others_alike q) keys_after in
      let outer_before = sum_z-filter (counts q row_before) (λ x. not (there x)) keys_after in
      omega (arith, ints, after, before, touched_after, touched_before, parts_after, parts_before, inner_after, inner_before, outer, outer_after, outer_alike, outer_before)

-- ---- the keys of groups, each once

pub groups-once : (width : ℕ) (keys : List ℕ) (rows : List (Cells Term)) → IsOnce (is_group width keys rows) (group_keys width keys rows)
groups-once width [] rows q = by (same_row q (row_by width (λ _. None)))
  where
    by : (b : Bool) → only b (pos 1) +ℤ pos 0 ≡ only b (pos 1)
    by true = refl
    by false = refl
groups-once width (v ∷ vs) rows q = once-times decides (map (projection width (v ∷ vs)) rows) q

any-map : {A B : Type 0} (p : B → Bool) (f : A → B) (xs : List A) → list_any p (map f xs) ≡ list_any (λ x. p (f x)) xs
any-map p f [] = refl
any-map p f (x ∷ xs) = ap (λ b. p (f x) || b) (any-map p f xs)

pub group-of_keyed : (width : ℕ) (v : ℕ) (vs : List ℕ) (rows : List (Cells Term)) (key : Cells Term)
    → is_group width (v ∷ vs) rows key ≡ list_any (λ row. same_row key (projection width (v ∷ vs) row)) rows
group-of_keyed width v vs rows key = any-map (same_row key) (projection width (v ∷ vs)) rows

-- ---- distinct keys, by what they show

none-among : (x : Cells Term) (xs : List (Cells Term)) → AllByRecursion (λ y. same_row x y ≡ false) xs → (q : Cells Term) → same_row q x ≡ true
    → among_rows xs q ≡ false
none-among x [] apart q is = refl
none-among x (y ∷ xs) apart q is =
    let first : same_row q y ≡ false = ap (λ z. same_row z y) ((decides q x).0 is) ∙ apart.0 in
    λ i. first i || none-among x xs apart.1 q is i

pub distinct-once : (xs : List (Cells Term)) → IsDistinct same_row xs → IsOnce (among_rows xs) xs
unfolding IsDistinct
distinct-once [] d q = refl
distinct-once (x ∷ xs) d q = by (same_row q x) refl (distinct-once xs d.1 q)
  where
    by : (b : Bool) → same_row q x ≡ b → times same_row xs q ≡ only (among_rows xs q) (pos 1)
        → only b (pos 1) +ℤ times same_row xs q ≡ only (b || among_rows xs q) (pos 1)
    by true is rest =
        let none = rest ∙ ap (λ c. only c (pos 1)) (none-among x xs d.0 q is) in omega (arith, ints, none)
    by false is rest = omega (arith, ints, rest)

module _ {V : Type 0} {test : V → V → Bool} (same : (x y : V) → Decides (test x y) (x ≡ y)) (knows : V → Type 0) (shown : V → Term)
    (apart : AreToldApart knows shown) where
  apart-shown : (x : Cells V) → IsKnown knows x → (xs : List (Cells V)) → AllByRecursion (IsKnown knows) xs
      → AllByRecursion (λ y. row_eq test x y ≡ false) xs → AllByRecursion (λ y. same_row (shown_row shown x) y ≡ false) (map (shown_row shown) xs)
  apart-shown x of_x [] known d = tt
  apart-shown x of_x (y ∷ xs) known d = (
    tested-shown (row_decides same) (row_decides term_same) {knows = IsKnown knows} (rows-told_apart {knows = knows} apart) x y of_x known.0 ∙ d.0,
    apart-shown x of_x xs known.1 d.1,
  )

  pub distinct-shown : (xs : List (Cells V)) → AllByRecursion (IsKnown knows) xs → IsDistinct (row_eq test) xs
      → IsDistinct same_row (map (shown_row shown) xs)
  unfolding IsDistinct
  distinct-shown [] known d = tt
  distinct-shown (x ∷ xs) known d = (apart-shown x known.0 xs known.1 d.0, distinct-shown xs known.1 d.1)

-- ---- the aggregates of a group for their variables

module _ {A : Type 0} (variable : A → ℕ) (argument : A → Cells Term → Option Term) (aggregate : A → List (Option Term) → Option Term) where
  abbrev pub valued : A → List (Cells Term) → Option Term
  valued a rows = aggregate a (map (argument a) rows)

  pub results-valued : (list : List A) (rows : List (Cells Term))
      → results_over (map aggregate list) (columns (map argument list) rows) ≡ map (λ a. valued a rows) list
  results-valued [] rows = refl
  results-valued (a ∷ list) rows = ap (λ rs. valued a rows ∷ rs) (results-valued list rows)

  pub cells-valued : (width : ℕ) (list : List A) (rows : List (Cells Term)) (key : Cells Term)
      → with_cells width (map variable list) (map (λ a. valued a rows) list) key ≡ with_values valued width (map {B = ℕ × A} (λ a. (variable a, a)) list) rows key
  cells-valued width [] rows key = refl
  cells-valued width (a ∷ list) rows key = cells-valued width list rows (extension width (variable a) (valued a rows) key)

  pub values-alike : (width : ℕ) (list : List A) (rows others : List (Cells Term)) → ((a : A) → valued a rows ≡ valued a others)
      → (key : Cells Term)
      → with_values valued width (map {B = ℕ × A} (λ a. (variable a, a)) list) rows key ≡ with_values valued width (map {B = ℕ × A} (λ a. (variable a, a)) list) others key
  values-alike width [] rows others alike key = refl
  values-alike width (a ∷ list) rows others alike key =
      ap (λ v. with_values valued width (map {B = ℕ × A} (λ b. (variable b, b)) list) rows (extension width (variable a) v key)) (alike a)
      ∙ values-alike width list rows others alike (extension width (variable a) (valued a others) key)

-- ---- whether a key has a group

module _ (width : ℕ) (keys : List ℕ) (rows : List (Cells Term)) where
  pub some-rows : (key : Cells Term) → list_any (λ row. same_row key (projection width keys row)) rows ≡ nat_lt 0 (length (group_of width keys rows key))
  some-rows key = by (list_any (λ row. same_row key (projection width keys row)) rows) refl
    where
      by : (b : Bool) → list_any (λ row. same_row key (projection width keys row)) rows ≡ b → b ≡ nat_lt 0 (length (group_of width keys rows key))
      by true is =
          let some : length (group_of width keys rows key) ≡ 0 → ⊥ = some-left (λ row. same_row key (projection width keys row)) rows is in
          let more : nat_lt 0 (length (group_of width keys rows key)) ≡ true = positive (length (group_of width keys rows key)) some in sym more
        where
          positive : (n : ℕ) → (n ≡ 0 → ⊥) → nat_lt 0 n ≡ true
          positive zero some = absurd (some refl)
          positive (suc n) some = let more : nat_lt 0 (suc n) ≡ true = grind (arith, nat_tests) in more
      by false is = sym (ap (λ xs. nat_lt 0 (length xs)) (none-left (λ row. same_row key (projection width keys row)) rows is))

pub unbound-shown : {V : Type 0} (shown : V → Term) (width : ℕ) → shown_row shown (row_by width (λ _. None)) ≡ row_by width (λ _. None)
unbound-shown shown width = sym (row_by-shown shown width (λ _. None) (λ _. None) (λ _. refl))

-- a key whose group isn't kept has none
pub nothing-at : {V G R : Type 0} {test : V → V → Bool} (same : (x y : V) → Decides (test x y) (x ≡ y)) (knows : V → Type 0) (shown : V → Term)
    → AreToldApart knows shown → (width : ℕ) (keys : List ℕ) (Holds : G → List (Cells Term) → Type 0) (given : G → Option (Cells V))
    (row_of : List (Cells Term) → Cells Term → Cells Term) (groups : List (Cells V × G)) (rows : List (Cells Term)) (key : Cells V) (row : R)
    → MayTouch knows width keys key → GroupsStand test knows shown width keys Holds given row_of groups rows → lookup (row_eq test key) groups ≡ None
    → None ≡ then_some (is_group width keys rows (shown_row shown key)) row
nothing-at {V} {G} {R} {test} same knows shown apart width [] Holds given row_of groups rows key row touch stands none =
    let there = subst (λ q. IsSome (lookup (row_eq test q) groups)) (sym (touch.keyless refl)) (stands.keyless refl) in
    absurd (true≢false (sym (subst IsSome none there)))
nothing-at {V} {G} {R} {test} same knows shown apart width (v ∷ vs) Holds given row_of groups rows key row touch stands none =
    by (is_group width (v ∷ vs) rows (shown_row shown key)) refl
  where
    by : (b : Bool) → is_group width (v ∷ vs) rows (shown_row shown key) ≡ b → None ≡ then_some b row
    by false is = refl
    by true is =
        let found = stands.whole (shown_row shown key) (sym (group-of_keyed width v vs rows (shown_row shown key)) ∙ is) in
        let here : found.0 ≡ key = rows-told_apart {knows = knows} apart found.0 key (stands.known found.0 found.1.0) touch.known found.1.1 in
        absurd (true≢false (sym (subst IsSome (ap (λ q. lookup (row_eq test q) groups) here ∙ none) found.1.0)))
