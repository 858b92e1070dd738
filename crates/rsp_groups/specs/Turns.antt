-- Words of the way: rows come in and then go, to a list that is one multiset with another on the way.
use Rattle.std.specs.Prelude.{true, false, List, ℤ}
use Rattle.std.specs.List.{AllZip}
use Rattle.rsp_groups.specs.Standing.{Steps}
use Rattle.rsp_multiset.specs.Rows.{Cells, row_eq}
use Rattle.rsp_multiset.specs.Weights.{IsSameMultiset}
use Rattle.rsp_terms.specs.declared.term.Term.{Term}
use Rattle.rsp_terms.specs.Same.{term_eq}

pub record Turn (rows : List (Cells Term × ℤ)) (before after : List (Cells Term)) : Type 0 where
  pub come : List (Cells Term)
  pub going : List (Cells Term)
  pub comes : Steps false rows before come
  pub same : IsSameMultiset (row_eq term_eq) come going
  pub goes : Steps true rows going after

pub record MayTurn {X : Type 0} (Is : X → Cells Term × ℤ → Type 0) (Stands : List (Cells Term) → Type 0)
    (entries : List X) : Type 0 where
  pub rows : List (Cells Term × ℤ)
  pub before : List (Cells Term)
  pub after : List (Cells Term)
  pub are : AllZip Is entries rows
  pub turn : Turn rows before after
  pub stands : Stands before
