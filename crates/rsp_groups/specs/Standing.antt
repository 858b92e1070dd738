-- Words of the way: what the state of a group, and of all groups, stands for.
use Rattle.std.specs.Prelude.{◌≡◌, ℕ, Bool, List, [], ◌∷◌, map, length, Option, None, IsSome, IfSome, true, ℤ}
use Rattle.std.specs.List.{AllZip, list_any}
use Rattle.std.specs.Map.{lookup}
use Rattle.rsp_expr.specs.Groups.{group_of}
use Rattle.rsp_groups.specs.Answers.{is_group, Shows}
use Rattle.rsp_groups.specs.Moves.{Moved, columns, values_in, part}
use Rattle.rsp_multiset.specs.Rows.{Cells, row_eq}
use Rattle.rsp_multiset.specs.Shown.{shown_row, IsKnown}
use Rattle.rsp_multiset.specs.Variables.{projection, row_by}
use Rattle.rsp_terms.specs.declared.term.Term.{Term}
use Rattle.rsp_terms.specs.Same.{term_eq}

-- a group has so many rows, and its folds stand for the values of the arguments in them
pub record GroupStands {F : Type 0} (stands : F → List (Option Term) → Type 0) (aggregate : F → List (Option Term) → Option Term)
    (arguments : List (Cells Term → Option Term)) (kinds : List (List (Option Term) → Option Term)) (number : ℕ) (kept : List F)
    (rows : List (Cells Term)) : Type 0 where
  pub count : number ≡ length rows
  pub folds : AllZip stands kept (columns arguments rows)
  pub aggregates : map aggregate kept ≡ kinds

-- each group that is kept stands for the rows of its key and is a group of the rows: with keys it has a row, without it is the
-- one; the row that it keeps, if it keeps one, is its row; each row has its group, and without keys the one is there
pub record GroupsStand {V G : Type 0} (test : V → V → Bool) (knows : V → Type 0) (shown : V → Term) (width : ℕ) (keys : List ℕ)
    (Holds : G → List (Cells Term) → Type 0) (given : G → Option (Cells V)) (row_of : List (Cells Term) → Cells Term → Cells Term)
    (groups : List (Cells V × G)) (rows : List (Cells Term)) : Type 0 where
  pub known : (q : Cells V) → IsSome (lookup (row_eq test q) groups) → IsKnown knows q
  pub held : (q : Cells V) → IfSome (lookup (row_eq test q) groups) (λ g. Holds g (group_of width keys rows (shown_row shown q)))
  pub gave : (q : Cells V) → IfSome (lookup (row_eq test q) groups) (λ g. IfSome (given g) (λ row.
      Shows width knows shown row (row_of (group_of width keys rows (shown_row shown q)) (shown_row shown q))))
  pub whole : (key : Cells Term) → list_any (λ row. row_eq term_eq key (projection width keys row)) rows ≡ true
      → (q : Cells V) × (IsSome (lookup (row_eq test q) groups) × (shown_row shown q ≡ key))
  pub keyless : keys ≡ [] → IsSome (lookup (row_eq test (row_by width (λ _. None))) groups)
  pub are : (q : Cells V) → IsSome (lookup (row_eq test q) groups) → is_group width keys rows (shown_row shown q) ≡ true

-- the rows come in, or go out, one entry after the other
abbrev pub Steps : Bool → List (Cells Term × ℤ) → List (Cells Term) → List (Cells Term) → Type 0
Steps out [] before after = before ≡ after
Steps out (e ∷ es) before after =
    (middle : List (Cells Term)) × (Moved out (part out e.1) e.0 before middle × Steps out es middle after)

-- what is said of a changed row
pub record IsEntry {V : Type 0} (knows : V → Type 0) (shown : V → Term) (width : ℕ) (keys : List ℕ)
    (arguments : List (Cells Term → Option Term)) (at : Cells V) (given : List (Option Term)) (by : ℤ)
    (row : Cells Term × ℤ) : Type 0 where
  pub known : IsKnown knows at
  pub key : projection width keys row.0 ≡ shown_row shown at
  pub values : given ≡ values_in arguments row.0
  pub count : by ≡ row.1

-- what one entry, and many, may do to groups
pub record MayMoveEntry (Is : Cells Term × ℤ → Type 0) (Stands : List (Cells Term) → Type 0) (out : Bool) : Type 0 where
  pub row : Cells Term × ℤ
  pub before : List (Cells Term)
  pub after : List (Cells Term)
  pub entry : Is row
  pub moved : Moved out (part out row.1) row.0 before after
  pub stands : Stands before

pub record MayStep {X : Type 0} (Is : X → Cells Term × ℤ → Type 0) (Stands : List (Cells Term) → Type 0) (out : Bool)
    (entries : List X) : Type 0 where
  pub rows : List (Cells Term × ℤ)
  pub before : List (Cells Term)
  pub after : List (Cells Term)
  pub are : AllZip Is entries rows
  pub steps : Steps out rows before after
  pub stands : Stands before
