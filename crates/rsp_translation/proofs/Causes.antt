-- The first reason why a query has no translation is never want of memory.
use Rattle.std.proofs.Common.{◌≡◌, ℕ, List, Option, Some, None}
use Rattle.std.specs.Option.{option_map, option_or}
use Rattle.rsp_query.specs.Queries.{Registered}
use Rattle.rsp_shapes.specs.declared.unscoped.Unscoped.{Unscoped}
use Rattle.rsp_shapes.specs.Scopes.{scope}
use Rattle.rsp_shapes.specs.Shapes.{exists_shape, graph_shape}
use Rattle.rsp_translation.specs.declared.shape.Shape.{Shape}
use Rattle.rsp_translation.specs.declared.shape.Shape.TheVariants.{GraphShape, ExistsShape, Scope, OutOfMemory}
use Rattle.rsp_translation.specs.Translation.{first_fault, name_of_unscoped}

by_parts : (names : List (List ℕ)) (graph exists : Option ℕ) (unscoped : Option Unscoped)
    → option_or (option_map (λ at. GraphShape at) graph)
    (option_or (option_map (λ at. ExistsShape at) exists) (option_map (λ u. Scope (name_of_unscoped names u)) unscoped))
    ≡ Some OutOfMemory → ⊥
by_parts names (Some at) exists unscoped h = cc
by_parts names None (Some at) unscoped h = cc
by_parts names None None (Some u) h = cc
by_parts names None None None h = cc

pub never_memory : (q : Registered) → first_fault q ≡ Some OutOfMemory → ⊥
never_memory q h = by_parts q.variables (graph_shape q) (exists_shape q) (scope q) h
