-- Definitions: what the clauses of a SELECT make of the tree of its group (SPARQL 1.1 Query, sections 18.2.4 and 18.2.5).
use Rattle.std.specs.Prelude.{ℕ, Bool, ◌&&◌, cond, List, [], ◌∷◌, Option, None, Some, length, filter}
use Rattle.std.specs.List.{range_with_len}
use Rattle.std.specs.Option.{option_map_or}
use Rattle.rsp_expr.specs.Formulas.{Formula, Aggregation}
use Rattle.rsp_query.specs.Groups.{Item, Parts, Selection, selection}
use Rattle.rsp_algebra.specs.Nodes as node
use Rattle.rsp_algebra.specs.Nodes.{Node}
use Rattle.rsp_shapes.specs.Visible.{is_given, is_visible_in, name_of, variables_of}

-- the variables that `*` projects, in the order of the text: that of their numbers
abbrev pub every_variable : List (List ℕ) → Parts → List ℕ
every_variable names body =
    filter (λ v. is_given (name_of names v) && is_visible_in names body v) (range_with_len 0 (length names))

abbrev pub projected : List (List ℕ) → Selection → List ℕ
projected names (selection distinct star items body grouped keys having aggregates) =
    cond star (every_variable names body) (variables_of items)

-- with what one item computes
abbrev pub with_item : Node → ℕ → Option Formula → Node
with_item tree v formula = option_map_or (λ made. node.over (node.extend v made) tree) formula tree

abbrev pub with_items : Node → List Item → Node
with_items tree [] = tree
with_items tree (item ∷ more) = with_items (with_item tree item.variable item.formula) more

abbrev pub with_groups : Bool → List Item → List (ℕ × Aggregation) → Node → Node
with_groups grouped keys aggregates tree = cond grouped (node.over (node.group (variables_of keys) aggregates) tree) tree

abbrev pub with_having : Option Formula → Node → Node
with_having None tree = tree
with_having (Some condition) tree = node.over (node.filter condition) tree

abbrev pub with_distinct : Bool → Node → Node
with_distinct distinct tree = cond distinct (node.over node.distinct tree) tree

-- what a SELECT makes of its group's tree: keys are computed, then groups made and tested by HAVING; items are computed in their
-- order, then projected
abbrev pub selected : List (List ℕ) → Selection → Node → Node
selected names (selection distinct star items body grouped keys having aggregates) tree =
    with_distinct distinct
    (node.over (node.project (projected names (selection distinct star items body grouped keys having aggregates)))
    (with_items (with_having having (with_groups grouped keys aggregates (with_items tree keys))) items))
