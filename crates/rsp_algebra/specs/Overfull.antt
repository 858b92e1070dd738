-- Definitions: when a tree has too many rows.
use Rattle.std.specs.Prelude.{ℕ, Bool, nat_lt, List, [], ◌∷◌, ◌++◌, length}
use Rattle.std.specs.List.{list_any}
pub use Rattle.rsp_spec.specs.Limits.{most_rows}
use Rattle.rsp_multiset.specs.Rows.{Cells}
use Rattle.rsp_terms.specs.declared.term.Term.{Term}
use Rattle.rsp_terms.specs.declared.statement.Fact.{Fact}
use Rattle.rsp_algebra.specs.Nodes as node
use Rattle.rsp_algebra.specs.Nodes.{Node}
use Rattle.rsp_algebra.specs.Solutions.{eval}

-- rows count with multiplicities
abbrev pub too_many : List (Cells Term) → Bool
too_many rows = nat_lt most_rows (length rows)

-- the subtrees of a tree, itself among them
abbrev pub subtrees : Node → List Node
subtrees (node.over single child) = node.over single child ∷ subtrees child
subtrees (node.of_two double left right) = node.of_two double left right ∷ (subtrees left ++ subtrees right)
subtrees leaf = leaf ∷ []

-- some subtree has too many rows over the facts
abbrev pub overfull : ℕ → Node → List Fact → Bool
overfull width node facts = list_any (λ (subtree : Node). too_many (eval width subtree facts)) (subtrees node)
