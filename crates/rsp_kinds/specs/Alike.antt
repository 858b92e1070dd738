-- Words of the way: what an operator stands for depends on the rows as multisets alone.
use Rattle.std.specs.Prelude.{◌≡◌, ℕ, Bool, List, [], map, length, ℤ, pos}
use Rattle.std.proofs.Common.{ap, ◌∙◌}
use Rattle.rsp_multiset.specs.Rows.{Cells, row_eq}
use Rattle.rsp_multiset.specs.RowLists.{each_once}
use Rattle.rsp_multiset.specs.RowSame.{row_decides}
use Rattle.rsp_multiset.specs.Variables.{cells_at}
use Rattle.rsp_multiset.specs.Weights.{only, weight, IsSameMultiset}
use Rattle.rsp_multiset.proofs.Linear.{sum-same}
use Rattle.rsp_multiset.proofs.SameLists.{same-map, same-once}
use Rattle.rsp_index.specs.Kept.{Kept}
use Rattle.rsp_terms.specs.declared.term.Term.{Term}
use Rattle.rsp_terms.specs.Same.{term_eq, term_same}
use Rattle.rsp_simple_operators.specs.Carried as kept
use Rattle.rsp_joins.specs.Stands.{StandsFor, Stands}
use Rattle.rsp_outer.specs.ByKey.{StandsByKey, kept_counts}
use Rattle.rsp_outer.specs.Partners.{if_there, partners_of}
use Rattle.rsp_outer.specs.Standing.{StandsWithNumbers}

-- the same rows, equally often
abbrev pub SameRows : List (Cells Term) → List (Cells Term) → Type 0
SameRows rows others = IsSameMultiset (row_eq term_eq) rows others

pub alike_kept : {V : Type 0} (knows : V → Type 0) (shown : V → Term) (entries : List (Cells V × ℤ)) (rows others : List (Cells Term))
    → SameRows rows others → kept.StandsFor knows shown entries rows → kept.StandsFor knows shown entries others
alike_kept knows shown entries rows others same stands = ((λ q. stands.0 q ∙ same q), stands.1)

module _ {V : Type 0} (eq : V → V → Bool) (knows : V → Type 0) (shown : V → Term) (width : ℕ) (key : List ℕ) where
  alike_side : (index : Kept V) (rows others : List (Cells Term)) → SameRows rows others
      → StandsFor eq knows shown width key index rows → StandsFor eq knows shown width key index others
  alike_side index rows others same stands =
      record {
        key_is = stands.key_is;
        holds = λ q. stands.holds q ∙ same q;
        fit = stands.fit;
      }

  pub alike_sides : (left right : Kept V) (lefts lefts' rights rights' : List (Cells Term)) → SameRows lefts lefts' → SameRows rights rights'
      → Stands eq knows shown width key left right lefts rights → Stands eq knows shown width key left right lefts' rights'
  alike_sides left right lefts lefts' rights rights' same_left same_right stands =
      record {
        left_stands = alike_side left lefts lefts' same_left stands.left_stands;
        right_stands = alike_side right rights rights' same_right stands.right_stands;
      }

  pub alike_numbers : (test : Cells Term → Cells Term → Bool) (left right : Kept V) (numbers : List (Cells V × ℤ))
      (lefts lefts' rights rights' : List (Cells Term)) → SameRows lefts lefts' → SameRows rights rights'
      → StandsWithNumbers eq knows shown width key test left right numbers lefts rights
      → StandsWithNumbers eq knows shown width key test left right numbers lefts' rights'
  alike_numbers test left right numbers lefts lefts' rights rights' same_left same_right stands =
      record {
        sides = alike_sides left right lefts lefts' rights rights' same_left same_right stands.sides;
        numbered = λ row. stands.numbered row ∙ ap (if_there (weight (row_eq eq) left.rows row)) (alike_partners _);
      }
    where
      alike_partners : (row : Cells Term) → partners_of test rights row ≡ partners_of test rights' row
      alike_partners row =
          sum-same (row_decides term_same) (λ right. only (test row right) (pos 1))
          (each_once (row_eq term_eq) rights) (each_once (row_eq term_eq) rights')
          (same-once (row_decides term_same) rights rights' same_right)

module _ {V : Type 0} (eq : V → V → Bool) (knows : V → Type 0) (shown : V → Term) (width : ℕ) (key : List ℕ) where
  pub alike_counts : (left : Kept V) (counts : List (Cells V × ℤ)) (lefts lefts' rights rights' : List (Cells Term))
      → SameRows lefts lefts' → SameRows rights rights'
      → StandsByKey eq knows shown width key left counts lefts rights
      → StandsByKey eq knows shown width key left counts lefts' rights'
  alike_counts left counts lefts lefts' rights rights' same_left same_right stands =
      record {
        left_stands = alike_side eq knows shown width key left lefts lefts' same_left stands.left_stands;
        counted =
            alike_side eq knows shown (length key) [] (kept_counts counts) (map (cells_at key) rights) (map (cells_at key) rights')
            (same-map (row_decides term_same) (row_eq term_eq) (cells_at key) rights rights' same_right)
            stands.counted;
      }
