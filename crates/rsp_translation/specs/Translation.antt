-- Definitions: the translation of a query (SPARQL 1.1 Query, section 18.2), or the first reason why it has none.
use Rattle.std.specs.Prelude.{◌≡◌, ⊤, ℕ, ◌+◌, List, Option, None, Some, Result, Ok, Err, codes, length}
use Rattle.std.specs.Option.{option_map, option_or}
use Rattle.rsp_query.specs.Groups.{sub, no_part, part_then}
use Rattle.rsp_query.specs.Queries.{Registered}
use Rattle.rsp_query.specs.Walks.{slashes_in}
use Rattle.rsp_algebra.specs.declared.tree.Place.TheVariants as place
use Rattle.rsp_algebra.specs.declared.tree.Translated.{Translated}
use Rattle.rsp_algebra.specs.Nodes.{Node}
use Rattle.rsp_algebra.specs.Meanings.{node_of}
use Rattle.rsp_translation.specs.declared.shape.Shape.{Shape}
use Rattle.rsp_translation.specs.declared.shape.Shape.TheVariants.{GraphShape, ExistsShape, Scope, OutOfMemory}
use Rattle.rsp_shapes.specs.declared.unscoped.Unscoped.{Unscoped}
use Rattle.rsp_shapes.specs.declared.unscoped.Unscoped.TheVariants.{Star, Variable}
use Rattle.rsp_shapes.specs.Visible.{name_of}
use Rattle.rsp_shapes.specs.Shapes.{declared, graph_shape, exists_shape}
use Rattle.rsp_shapes.specs.Scopes.{scope}
use Rattle.rsp_translation.specs.Selects.{projected}
use Rattle.rsp_translation.specs.Trees.{Setting, select_node}

abbrev pub name_of_unscoped : List (List ℕ) → Unscoped → List ℕ
name_of_unscoped names Star = codes "*"
name_of_unscoped names (Variable v) = name_of names v

abbrev pub scope_shape : Registered → Option Shape
scope_shape q = option_map (λ unscoped. Scope (name_of_unscoped q.variables unscoped)) (scope q)

-- shapes of graphs before those of EXISTS before scopes, wherever they stand
abbrev pub first_fault : Registered → Option Shape
first_fault q =
    option_or (option_map (λ at. GraphShape at) (graph_shape q))
    (option_or (option_map (λ at. ExistsShape at) (exists_shape q)) (scope_shape q))

-- a place for each variable, and behind them one for each `/`
abbrev pub width_of : Registered → ℕ
width_of q = length q.variables + slashes_in (part_then (sub q.selection) no_part)

abbrev pub setting_of : Registered → Setting
setting_of q = record { names = q.variables; windows = declared q.windows; width = width_of q }

-- outside GRAPH and WINDOW patterns are matched in the stored default graph
abbrev pub tree_of : Registered → Node
tree_of q = select_node (setting_of q) place.Default (length q.variables) q.selection

-- the query has no fault, and this is its translation
pub record IsTranslated (q : Registered) (made : Translated) : Type 0 where
  pub sound : first_fault q ≡ None
  pub tree : node_of made.tree ≡ tree_of q
  pub width : made.width ≡ width_of q
  pub shown : made.shown ≡ projected q.variables q.selection

-- what the call answers; want of memory alone is free
abbrev pub IsFault : Registered → Shape → Type 0
IsFault q OutOfMemory = ⊤
IsFault q fault = first_fault q ≡ Some fault

abbrev pub IsAnswer : Registered → Result Translated Shape → Type 0
IsAnswer q (Ok made) = IsTranslated q made
IsAnswer q (Err fault) = IsFault q fault
