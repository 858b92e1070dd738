-- The rows of the groups of some keys, one key after the other.
use Rattle.std.proofs.Common.{◌≡◌, ℕ, ◌≤◌, Bool, true, false, cond, List, [], ◌∷◌, ◌++◌, ◌⊎◌, inl, inr, ℤ, drop, length, map, filter, refl, sym, ap, subst, ◌∙◌, append_assoc, Decides}
use Rattle.std.specs.Prelude.{Option, Some, None, IsSome, IfSome}
use Rattle.std.specs.Bool.{then_some}
use Rattle.std.specs.List.{AllByRecursion, AllZip}
use Rattle.std.specs.Map.{keys_of, lookup}
use Rattle.std.specs.Option.{option_map, option_to_list}
use Rattle.std.proofs.lemmas.List.{append-nil, drop_all, map-append}
use Rattle.rsp_expr.specs.Groups.{group_of}
use Rattle.rsp_groups.specs.Answers.{is_group, with_cells, row_over, rows_over, MayTouch, IsRow, Shows}
use Rattle.rsp_groups.specs.Carrying.{known_weaker, row_alike, row_known, learnt_groups}
use Rattle.rsp_groups.specs.Moves.{columns}
use Rattle.rsp_groups.specs.Standing.{GroupStands, GroupsStand}
use Rattle.rsp_groups.proofs.Answering.{unbound-shown}
use Rattle.rsp_groups.proofs.Keyed.{found-has}
use Rattle.rsp_groups.proofs.Turning.{rows-alike}
use Rattle.rsp_groups.proofs.Written.{Written, stand-written}
use Rattle.rsp_multiset.specs.Rows.{Cells, row_eq}
use Rattle.rsp_multiset.specs.Shown.{shown_row, AreToldApart}
use Rattle.rsp_terms.specs.declared.term.Term.{Term}
use Rattle.rsp_operators.specs.Laws.{IsShownAlike}

-- ---- one group

-- no more cells than there are variables, or values
pub cells-end : {A V : Type 0} (width : ℕ) (variable : A → ℕ) (list : List A) (values : List (Option V)) (row : Cells V) → (list ≡ []) ⊎ (values ≡ [])
    → with_cells width (map variable list) values row ≡ row
cells-end {A} {V} width variable list values row (inl none) = ap (λ xs. with_cells width (map variable xs) values row) none ∙ by values
  where
    by : (others : List (Option V)) → with_cells width [] others row ≡ row
    by [] = refl
    by (value ∷ others) = refl
cells-end {A} {V} width variable list values row (inr none) = ap (λ others. with_cells width (map variable list) others row) none ∙ by (map variable list)
  where
    by : (vs : List ℕ) → with_cells width vs [] row ≡ row
    by [] = refl
    by (v ∷ vs) = refl

pub group-same : {F : Type 0} (stands : F → List (Option Term) → Type 0) (aggregate : F → List (Option Term) → Option Term) (arguments : List (Cells Term → Option Term))
    (kinds : List (List (Option Term) → Option Term)) (number number' : ℕ) (kept kept' : List F) (rows : List (Cells Term)) → number' ≡ number → kept' ≡ kept
    → GroupStands stands aggregate arguments kinds number kept rows → GroupStands stands aggregate arguments kinds number' kept' rows
group-same stands aggregate arguments kinds number number' kept kept' rows same_number same_folds group = record {
  count = same_number ∙ group.count;
  folds = subst (λ fs. AllZip stands fs (columns arguments rows)) (sym same_folds) group.folds;
  aggregates = ap (map aggregate) same_folds ∙ group.aggregates;
}

-- ---- a key's group, which keeps its row

pub touch-weaker : {V : Type 0} (knows0 knows1 : V → Type 0) → ((v : V) → knows0 v → knows1 v) → (width : ℕ) (keys : List ℕ) (key : Cells V) → MayTouch knows0 width keys key
    → MayTouch knows1 width keys key
touch-weaker knows0 knows1 more width keys key touch = record { known = known_weaker more key touch.known; long = touch.long; keyless = touch.keyless }

module _ {V G : Type 0} {test : V → V → Bool} (same : (x y : V) → Decides (test x y) (x ≡ y)) (knows0 knows1 : V → Type 0) (shown0 shown1 : V → Term)
    (alike : (v : V) → knows0 v → IsShownAlike shown0 knows1 shown1 v) (apart : AreToldApart knows1 shown1) (width : ℕ) (keys : List ℕ)
    (Holds : G → List (Cells Term) → Type 0) (given : G → Option (Cells V)) (row_of : List (Cells Term) → Cells Term → Cells Term)
    (key : Cells V) (touch : MayTouch knows0 width keys key) (g g' : G) (groups groups' : List (Cells V × G)) (rows : List (Cells Term))
    (written : Written test key (Some g') groups groups') (there : lookup (row_eq test key) groups ≡ Some g)
    (stands : GroupsStand test knows0 shown0 width keys Holds given row_of groups rows) where
  -- the group's row is put in its place, or was there
  pub stand-renewed : ((xs : List (Cells Term)) → Holds g xs → Holds g' xs) → (row : Cells V) → given g' ≡ Some row
      → Shows width knows1 shown1 row (row_of (group_of width keys rows (shown_row shown0 key)) (shown_row shown0 key))
      → GroupsStand test knows1 shown1 width keys Holds given row_of groups' rows
  stand-renewed holds row kept shows =
      let learnt = learnt_groups knows0 shown0 knows1 shown1 width keys Holds given row_of groups rows alike stands in
      let known = known_weaker alike key touch.known in
      let shown_alike = row_alike shown0 knows1 shown1 key known in
      stand-written same knows1 shown1 width keys Holds given row_of apart key (Some g') groups groups' rows rows written (row_known shown0 knows1 shown1 key known)
      (holds (group_of width keys rows (shown_row shown1 key))
      (found-has (λ h. Holds h (group_of width keys rows (shown_row shown1 key))) (lookup (row_eq test key) groups) g there (learnt.held key)))
      (subst (λ o. IfSome o (λ r. Shows width knows1 shown1 r (row_of (group_of width keys rows (shown_row shown1 key)) (shown_row shown1 key)))) (sym kept)
      (subst (λ k. Shows width knows1 shown1 row (row_of (group_of width keys rows k) k)) (sym shown_alike) shows))
      (sym (learnt.are key (subst IsSome (sym there) refl)))
      (λ none. ap (shown_row shown1) (touch.keyless none) ∙ unbound-shown shown1 width)
      (λ other unlike. (refl, refl)) learnt

  pub row-there : (row : Cells V) → Shows width knows1 shown1 row (row_of (group_of width keys rows (shown_row shown0 key)) (shown_row shown0 key))
      → Some (shown_row shown1 row) ≡ row_over shown0 width keys row_of rows key
  row-there row shows =
      ap Some shows.shows
      ∙ ap (λ b. then_some b (row_of (group_of width keys rows (shown_row shown0 key)) (shown_row shown0 key))) (sym (stands.are key (subst IsSome (sym there) refl)))

-- ---- one key after the other

pub touch-here : {V : Type 0} (P : Cells V → Type 0) (here : List (Cells V × ℤ)) (key : Cells V) (n : ℤ) (rest : List (Cells V × ℤ)) → here ≡ (key, n) ∷ rest
    → AllByRecursion P (keys_of here) → P key × AllByRecursion P (keys_of rest)
touch-here P here key n rest split touch = subst (λ es. AllByRecursion P (keys_of es)) split touch

pub row_over-alike : {V : Type 0} (shown0 shown1 : V → Term) (width : ℕ) (keys : List ℕ) (row_of : List (Cells Term) → Cells Term → Cells Term) (rows : List (Cells Term)) (key : Cells V)
    → shown_row shown1 key ≡ shown_row shown0 key → row_over shown1 width keys row_of rows key ≡ row_over shown0 width keys row_of rows key
row_over-alike shown0 shown1 width keys row_of rows key alike = ap (λ k. then_some (is_group width keys rows k) (row_of (group_of width keys rows k) k)) alike

pub shown-option : {V W : Type 0} (h : V → W) (found : Option V) → map h (option_to_list found) ≡ option_to_list (option_map h found)
shown-option h None = refl
shown-option h (Some value) = refl

module _ {V : Type 0} (shown : V → Term) (width : ℕ) (keys : List ℕ) (row_of : List (Cells Term) → Cells Term → Cells Term) (rows : List (Cells Term)) where
  pub first-over : (q : Cells V) (qs : List (Cells V))
      → option_to_list (row_over shown width keys row_of rows q) ++ rows_over shown width keys row_of rows qs ≡ rows_over shown width keys row_of rows (q ∷ qs)
  first-over q qs = by (is_group width keys rows (shown_row shown q))
    where
      by : (b : Bool)
          → option_to_list (then_some b (row_of (group_of width keys rows (shown_row shown q)) (shown_row shown q)))
          ++ map (λ key. row_of (group_of width keys rows key) key) (filter (is_group width keys rows) (map (shown_row shown) qs))
          ≡ map (λ key. row_of (group_of width keys rows key) key)
          (cond b (shown_row shown q ∷ filter (is_group width keys rows) (map (shown_row shown) qs)) (filter (is_group width keys rows) (map (shown_row shown) qs)))
      by true = refl
      by false = refl

  -- the rows so far, and those of the keys that are left
  pub rows-next : (knows1 knows2 : V → Type 0) (shown1 shown2 : V → Term) → ((v : V) → knows1 v → IsShownAlike shown1 knows2 shown2 v)
      → (here rest : List (Cells V × ℤ)) (key : Cells V) (n : ℤ) → here ≡ (key, n) ∷ rest → (found : Option (Cells V)) (out out' : List (Cells V)) {whole : List (Cells Term)}
      → out' ≡ out ++ option_to_list found → AllByRecursion (IsRow width knows1) out
      → option_map (shown_row shown2) found ≡ row_over shown width keys row_of rows key
      → map (shown_row shown1) out ++ rows_over shown width keys row_of rows (keys_of here) ≡ whole
      → map (shown_row shown2) out' ++ rows_over shown width keys row_of rows (keys_of rest) ≡ whole
  rows-next knows1 knows2 shown1 shown2 next here rest key n split found out out' pushed all is so_far =
      ap (λ zs. map (shown_row shown2) zs ++ rows_over shown width keys row_of rows (keys_of rest)) pushed
      ∙ ap (λ ys. ys ++ rows_over shown width keys row_of rows (keys_of rest)) (map-append (shown_row shown2) out (option_to_list found))
      ∙ append_assoc (map (shown_row shown2) out) (map (shown_row shown2) (option_to_list found)) (rows_over shown width keys row_of rows (keys_of rest))
      ∙ ap (λ ys. map (shown_row shown2) out ++ (ys ++ rows_over shown width keys row_of rows (keys_of rest))) (shown-option (shown_row shown2) found ∙ ap option_to_list is)
      ∙ ap (λ ys. map (shown_row shown2) out ++ ys) (first-over key (keys_of rest))
      ∙ ap (λ es. map (shown_row shown2) out ++ rows_over shown width keys row_of rows (keys_of es)) (sym split)
      ∙ ap (λ ys. ys ++ rows_over shown width keys row_of rows (keys_of here)) (rows-alike width knows1 knows2 shown1 shown2 next out all)
      ∙ so_far

  pub rows-end : (touched : List (Cells V × ℤ)) (i : ℕ) (out whole : List (Cells Term)) → length touched ≤ i
      → out ++ rows_over shown width keys row_of rows (keys_of (drop i touched)) ≡ whole → out ≡ whole
  rows-end touched i out whole past so_far =
      sym (append-nil out)
      ∙ ap (λ es. out ++ rows_over shown width keys row_of rows (keys_of es)) (sym (drop_all i touched past)) ∙ so_far
