-- Definitions: variables that stand where the scope of their names doesn't allow it (SPARQL 1.1 Query, sections 10.1, 11.4,
-- 18.2.1 and 19.8, notes 12 to 14). Each word here gives the first such variable in the text, if there is one. An item's
-- expression stands before its variable; the items of a SELECT stand before its group, and its keys and HAVING behind it.
use Rattle.std.specs.Prelude.{ℕ, nat_eq, Bool, ◌||◌, ◌&&◌, not, cond, List, [], ◌∷◌, ◌++◌, Option, None, Some, is_some}
use Rattle.std.specs.Bool.{then_some}
use Rattle.std.specs.List.{find, list_any}
use Rattle.std.specs.Option.{option_or, option_map, option_and_then}
use Rattle.rsp_expr.specs.Formulas.{Formula, Aggregation}
use Rattle.rsp_query.specs.Groups.{Item, Part, Parts, Groups, Selection, optional, minus, union, graph, window, exists, bind}
use Rattle.rsp_query.specs.Groups.{sub, no_part, part_then, no_group, group_then, selection, parts_in}
use Rattle.rsp_query.specs.Queries.{Registered}
use Rattle.rsp_algebra.specs.Nodes.{formula_variables}
use Rattle.rsp_algebra.specs.Patterns.{among}
use Rattle.rsp_shapes.specs.declared.unscoped.Unscoped.{Unscoped}
use Rattle.rsp_shapes.specs.declared.unscoped.Unscoped.TheVariants.{Star, Variable}
use Rattle.rsp_shapes.specs.Visible.{is_visible_in, variables_of}

-- the variable, where the test is true
abbrev pub where_true : Bool → ℕ → Option Unscoped
where_true test v = then_some test (Variable v)

-- some item computes the variable
abbrev pub is_computed : List Item → ℕ → Bool
is_computed items v = list_any (λ item. is_some item.formula && nat_eq v item.variable) items

-- what a grouped SELECT may name outside aggregates: a key, what an earlier item computes, and what stands for an aggregate
abbrev pub is_known : List Item → List Item → List (ℕ × Aggregation) → ℕ → Bool
is_known keys before aggregates v =
    among (variables_of keys) v || (is_computed before v || list_any (λ entry. nat_eq v entry.0) aggregates)

abbrev pub unknown_in : Bool → List Item → List Item → List (ℕ × Aggregation) → Formula → Option Unscoped
unknown_in grouped keys before aggregates formula =
    cond grouped
    (option_map (λ v. Variable v) (find (λ v. not (is_known keys before aggregates v)) (formula_variables formula)))
    None

-- an item of a SELECT, behind those before it
abbrev pub item_fault : List (List ℕ) → Parts → Bool → List Item → List (ℕ × Aggregation) → List Item → ℕ → Option Formula
    → Option Unscoped
item_fault names body grouped keys aggregates before v None =
    where_true
    (among (variables_of before) v || (grouped && not (among (variables_of keys) v || is_computed before v)))
    v
item_fault names body grouped keys aggregates before v (Some formula) =
    option_or (unknown_in grouped keys before aggregates formula)
    (where_true (is_visible_in names body v || (among (variables_of before) v || among (variables_of keys) v)) v)

abbrev pub items_fault : List (List ℕ) → Parts → Bool → List Item → List (ℕ × Aggregation) → List Item → List Item
    → Option Unscoped
items_fault names body grouped keys aggregates before [] = None
items_fault names body grouped keys aggregates before (item ∷ more) =
    option_or (item_fault names body grouped keys aggregates before item.variable item.formula)
    (items_fault names body grouped keys aggregates (before ++ (item ∷ [])) more)

-- a key of GROUP BY, behind those before it
abbrev pub key_fault : List (List ℕ) → Parts → List Item → ℕ → Option Formula → Option Unscoped
key_fault names body before v formula =
    where_true (is_some formula && (is_visible_in names body v || among (variables_of before) v)) v

abbrev pub keys_fault : List (List ℕ) → Parts → List Item → List Item → Option Unscoped
keys_fault names body before [] = None
keys_fault names body before (key ∷ more) =
    option_or (key_fault names body before key.variable key.formula)
    (keys_fault names body (before ++ (key ∷ [])) more)

abbrev pub having_fault : Bool → List Item → List Item → List (ℕ × Aggregation) → Option Formula → Option Unscoped
having_fault grouped keys items aggregates having = option_and_then (unknown_in grouped keys items aggregates) having

abbrev mutual
  -- a part of a group, behind those before it
  pub scope_fault : List (List ℕ) → List Part → Part → Option Unscoped
  scope_fault names before (optional body) = scope_fault_in names [] body
  scope_fault names before (minus body) = scope_fault_in names [] body
  scope_fault names before (union groups) = scope_fault_among names groups
  scope_fault names before (graph name at body) = scope_fault_in names [] body
  scope_fault names before (window name at body) = scope_fault_in names [] body
  scope_fault names before (exists negated at body) = scope_fault_in names [] body
  scope_fault names before (bind v formula) = where_true (is_visible_in names (parts_in before) v) v
  scope_fault names before (sub inner) = scope_fault_of names inner
  scope_fault names before _ = None

  pub scope_fault_in : List (List ℕ) → List Part → Parts → Option Unscoped
  scope_fault_in names before no_part = None
  scope_fault_in names before (part_then part more) =
      option_or (scope_fault names before part) (scope_fault_in names (before ++ (part ∷ [])) more)

  pub scope_fault_among : List (List ℕ) → Groups → Option Unscoped
  scope_fault_among names no_group = None
  scope_fault_among names (group_then group more) =
      option_or (scope_fault_in names [] group) (scope_fault_among names more)

  pub scope_fault_of : List (List ℕ) → Selection → Option Unscoped
  scope_fault_of names (selection distinct star items body grouped keys having aggregates) =
      option_or (then_some (star && grouped) Star)
      (option_or (items_fault names body grouped keys aggregates [] items)
      (option_or (scope_fault_in names [] body)
      (option_or (keys_fault names body [] keys) (having_fault grouped keys items aggregates having))))

abbrev pub scope : Registered → Option Unscoped
scope q = scope_fault_of q.variables q.selection
