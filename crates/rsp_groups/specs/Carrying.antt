-- Words of the way: groups under a domain that shows what they keep alike.
use Rattle.std.specs.Prelude.{◌≡◌, ℕ, Bool, List, [], ◌∷◌, ◌++◌, Option, None, Some, IsSome, IfSome, Decides}
use Rattle.std.specs.List.{AllByRecursion, cons_option, filter_map}
use Rattle.std.specs.Map.{keys_of, values_of, lookup}
use Rattle.std.specs.Option.{option_map}
use Rattle.std.proofs.Common.{ap, ◌∙◌, sym, subst, refl}
use Rattle.std.proofs.lemmas.List.Elements.{All-contains, All-from_recursion}
use Rattle.std.proofs.lemmas.Map.Views.{Contains-keys_from_lookup, IfSome-lookup_from_All}
use Rattle.rsp_expr.specs.Groups.{group_of}
use Rattle.rsp_multiset.specs.Rows.{Cells, row_eq}
use Rattle.rsp_multiset.specs.RowSame.{row_decides}
use Rattle.rsp_multiset.specs.Shown.{shown_row, IsKnown}
use Rattle.rsp_terms.specs.declared.term.Term.{Term}
use Rattle.rsp_operators.specs.Laws.{IsShownAlike}
use Rattle.rsp_groups.specs.Answers.{is_group, Shows}
use Rattle.rsp_groups.specs.Standing.{GroupsStand}

-- what a state keeps: the keys of its groups, and the rows that they gave
abbrev pub rows_kept : {V G : Type 0} → (G → Option (Cells V)) → List (Cells V × G) → List (Cells V)
rows_kept given groups = keys_of groups ++ filter_map given (values_of groups)

pub known_weaker : {V : Type 0} {P Q : V → Type 0} → ((v : V) → P v → Q v) → (row : Cells V) → IsKnown P row → IsKnown Q row
known_weaker more [] known = tt
known_weaker more (None ∷ row) known = (tt, known_weaker more row known.1)
known_weaker more (Some v ∷ row) known = (more v known.0, known_weaker more row known.1)

module _ {V : Type 0} (shown : V → Term) (knows : V → Type 0) (shown' : V → Term) where
  value_alike : (value : Option V) → IsKnown (IsShownAlike shown knows shown') (value ∷ [])
      → option_map shown' value ≡ option_map shown value
  value_alike None alike = refl
  value_alike (Some v) alike = ap Some alike.0.1

  pub row_alike : (row : Cells V) → IsKnown (IsShownAlike shown knows shown') row → shown_row shown' row ≡ shown_row shown row
  row_alike [] alike = refl
  row_alike (value ∷ row) alike = λ i. value_alike value (alike.0, tt) i ∷ row_alike row alike.1 i

  pub row_known : (row : Cells V) → IsKnown (IsShownAlike shown knows shown') row → IsKnown knows row
  row_known row alike = known_weaker {P = IsShownAlike shown knows shown'} {Q = knows} (λ v known. known.0) row alike

-- a row shows the same cells where its values are shown alike
module _ {V : Type 0} (before : V → Type 0) (shown : V → Term) (knows : V → Type 0) (shown' : V → Term) (width : ℕ) where
  shows_alike : (given : Option (Cells V)) (cells cells' : Cells Term) → cells' ≡ cells
      → IfSome given (λ row. Shows width before shown row cells) → IfSome given (IsKnown (IsShownAlike shown knows shown'))
      → IfSome given (λ row. Shows width knows shown' row cells')
  shows_alike None cells cells' same shows alike = tt
  shows_alike (Some row) cells cells' same shows alike = record {
    is = record { long = shows.is.long; known = row_known shown knows shown' row alike };
    shows = row_alike shown knows shown' row alike ∙ (shows.shows ∙ sym same);
  }

-- groups stand on where the values of their keys, and of the rows that they keep, are shown alike
carried_at : {V G : Type 0} {test : V → V → Bool} (before : V → Type 0) (shown : V → Term) (knows : V → Type 0)
    (shown' : V → Term) (width : ℕ) (keys : List ℕ) (Holds : G → List (Cells Term) → Type 0) (given : G → Option (Cells V))
    (row_of : List (Cells Term) → Cells Term → Cells Term) (groups : List (Cells V × G)) (rows : List (Cells Term))
    → ((q : Cells V) → IsSome (lookup (row_eq test q) groups) → IsKnown (IsShownAlike shown knows shown') q)
    → ((q : Cells V) → IfSome (lookup (row_eq test q) groups) (λ g. IfSome (given g) (IsKnown (IsShownAlike shown knows shown'))))
    → GroupsStand test before shown width keys Holds given row_of groups rows
    → GroupsStand test knows shown' width keys Holds given row_of groups rows
carried_at {V} {G} {test} before shown knows shown' width keys Holds given row_of groups rows alike alike_given stands = record {
  known = λ q some. row_known shown knows shown' q (alike q some);
  held = λ q. by q (lookup (row_eq test q) groups) refl (stands.held q);
  gave = λ q. by_given q (lookup (row_eq test q) groups) refl (stands.gave q) (alike_given q);
  whole = λ key there. let found = stands.whole key there in
      (found.0, (found.1.0, row_alike shown knows shown' found.0 (alike found.0 found.1.0) ∙ found.1.1));
  keyless = stands.keyless;
  are = λ q some. ap (is_group width keys rows) (row_alike shown knows shown' q (alike q some)) ∙ stands.are q some;
}
  where
    same : (q : Cells V) (g : G) → lookup (row_eq test q) groups ≡ Some g → shown_row shown' q ≡ shown_row shown q
    same q g is = row_alike shown knows shown' q (alike q (subst IsSome (sym is) refl))

    by : (q : Cells V) (found : Option G) → lookup (row_eq test q) groups ≡ found
        → IfSome found (λ g. Holds g (group_of width keys rows (shown_row shown q)))
        → IfSome found (λ g. Holds g (group_of width keys rows (shown_row shown' q)))
    by q None is held = tt
    by q (Some g) is held = subst (λ key. Holds g (group_of width keys rows key)) (sym (same q g is)) held

    by_given : (q : Cells V) (found : Option G) → lookup (row_eq test q) groups ≡ found
        → IfSome found (λ g. IfSome (given g) (λ row.
        Shows width before shown row (row_of (group_of width keys rows (shown_row shown q)) (shown_row shown q))))
        → IfSome found (λ g. IfSome (given g) (IsKnown (IsShownAlike shown knows shown')))
        → IfSome found (λ g. IfSome (given g) (λ row.
        Shows width knows shown' row (row_of (group_of width keys rows (shown_row shown' q)) (shown_row shown' q))))
    by_given q None is gave alike_row = tt
    by_given q (Some g) is gave alike_row =
        shows_alike before shown knows shown' width (given g)
        (row_of (group_of width keys rows (shown_row shown q)) (shown_row shown q))
        (row_of (group_of width keys rows (shown_row shown' q)) (shown_row shown' q))
        (ap (λ key. row_of (group_of width keys rows key) key) (same q g is)) gave alike_row

-- so they do where a domain has learnt
pub learnt_groups : {V G : Type 0} {test : V → V → Bool} (before : V → Type 0) (shown : V → Term) (knows : V → Type 0)
    (shown' : V → Term) (width : ℕ) (keys : List ℕ) (Holds : G → List (Cells Term) → Type 0) (given : G → Option (Cells V))
    (row_of : List (Cells Term) → Cells Term → Cells Term) (groups : List (Cells V × G)) (rows : List (Cells Term))
    → ((v : V) → before v → IsShownAlike shown knows shown' v)
    → GroupsStand test before shown width keys Holds given row_of groups rows
    → GroupsStand test knows shown' width keys Holds given row_of groups rows
learnt_groups {V} {G} {test} before shown knows shown' width keys Holds given row_of groups rows alike stands =
    carried_at before shown knows shown' width keys Holds given row_of groups rows
    (λ q some. known_weaker alike q (stands.known q some)) (λ q. by q (lookup (row_eq test q) groups) (stands.gave q)) stands
  where
    by_row : (q : Cells V) (kept : Option (Cells V))
        → IfSome kept (λ row. Shows width before shown row (row_of (group_of width keys rows (shown_row shown q)) (shown_row shown q)))
        → IfSome kept (IsKnown (IsShownAlike shown knows shown'))
    by_row q None gave = tt
    by_row q (Some row) gave = known_weaker alike row gave.is.known

    by : (q : Cells V) (found : Option G)
        → IfSome found (λ g. IfSome (given g) (λ row.
        Shows width before shown row (row_of (group_of width keys rows (shown_row shown q)) (shown_row shown q))))
        → IfSome found (λ g. IfSome (given g) (IsKnown (IsShownAlike shown knows shown')))
    by q None gave = tt
    by q (Some g) gave = by_row q (given g) gave

-- what holds of all that a state keeps
module _ {V : Type 0} (P : Cells V → Type 0) where
  first_all : (xs ys : List (Cells V)) → AllByRecursion P (xs ++ ys) → AllByRecursion P xs
  first_all [] ys all = tt
  first_all (x ∷ xs) ys all = (all.0, first_all xs ys all.1)

  rest_all : (xs ys : List (Cells V)) → AllByRecursion P (xs ++ ys) → AllByRecursion P ys
  rest_all [] ys all = all
  rest_all (x ∷ xs) ys all = rest_all xs ys all.1

  head_has : (given : Option (Cells V)) (rest : List (Cells V)) → AllByRecursion P (cons_option given rest) → IfSome given P
  head_has None rest all = tt
  head_has (Some row) rest all = all.0

  tail_has : (given : Option (Cells V)) (rest : List (Cells V)) → AllByRecursion P (cons_option given rest) → AllByRecursion P rest
  tail_has None rest all = all
  tail_has (Some row) rest all = all.1

given_all : {V G : Type 0} (P : Cells V → Type 0) (given : G → Option (Cells V)) (kept : List G)
    → AllByRecursion P (filter_map given kept) → AllByRecursion (λ g. IfSome (given g) P) kept
given_all P given [] all = tt
given_all P given (g ∷ kept) all =
    (head_has P (given g) (filter_map given kept) all, given_all P given kept (tail_has P (given g) (filter_map given kept) all))

pub carried_groups : {V G : Type 0} {test : V → V → Bool} (same : (x y : V) → Decides (test x y) (x ≡ y))
    (before : V → Type 0) (shown : V → Term) (knows : V → Type 0) (shown' : V → Term) (width : ℕ) (keys : List ℕ)
    (Holds : G → List (Cells Term) → Type 0) (given : G → Option (Cells V))
    (row_of : List (Cells Term) → Cells Term → Cells Term) (groups : List (Cells V × G)) (rows : List (Cells Term))
    → AllByRecursion (IsKnown (IsShownAlike shown knows shown')) (rows_kept given groups)
    → GroupsStand test before shown width keys Holds given row_of groups rows
    → GroupsStand test knows shown' width keys Holds given row_of groups rows
carried_groups {V} {G} {test} same before shown knows shown' width keys Holds given row_of groups rows alike stands =
    carried_at before shown knows shown' width keys Holds given row_of groups rows
    (λ q some.
    All-contains (IsKnown (IsShownAlike shown knows shown')) (keys_of groups) q
    (All-from_recursion (IsKnown (IsShownAlike shown knows shown')) (keys_of groups)
    (first_all (IsKnown (IsShownAlike shown knows shown')) (keys_of groups) (filter_map given (values_of groups)) alike))
    (Contains-keys_from_lookup {eq = row_eq test} (λ x y. (row_decides same x y).0) q groups some))
    (λ q.
    IfSome-lookup_from_All (λ g. IfSome (given g) (IsKnown (IsShownAlike shown knows shown'))) (row_eq test q) groups
    (All-from_recursion (λ g. IfSome (given g) (IsKnown (IsShownAlike shown knows shown'))) (values_of groups)
    (given_all (IsKnown (IsShownAlike shown knows shown')) given (values_of groups)
    (rest_all (IsKnown (IsShownAlike shown knows shown')) (keys_of groups) (filter_map given (values_of groups)) alike))))
    stands
