-- Definitions: groups and selects as plain trees (SPARQL 1.1 Query, section 18.2.2).
use Rattle.std.specs.Prelude.{ℕ, Bool, List, [], ◌∷◌, Option}
use Rattle.rsp_terms.specs.declared.term.Term.{Term}
use Rattle.rsp_expr.specs.declared.slot.Slot.{Slot}
use Rattle.rsp_expr.specs.Formulas.{Formula, Aggregation}
use Rattle.rsp_query.specs.Paths.{Way}

-- a variable, and what it is computed by
pub record Item : Type 0 where
  pub variable : ℕ
  pub formula : Option Formula

mutual
  pub data Part : Type 0 where
    triple : Slot → Way → Slot → Part
    optional : Parts → Part
    minus : Parts → Part
    union : Groups → Part
    graph : Slot → ℕ → Parts → Part
    window : List ℕ → ℕ → Parts → Part
    filter : Formula → Part
    exists : Bool → ℕ → Parts → Part
    bind : ℕ → Formula → Part
    values : List ℕ → List (List (Option Term)) → Part
    sub : Selection → Part

  -- the elements of a group, in order
  pub data Parts : Type 0 where
    no_part : Parts
    part_then : Part → Parts → Parts

  pub data Groups : Type 0 where
    no_group : Groups
    group_then : Parts → Groups → Groups

  -- distinct, star, items, body, grouped, keys, HAVING, aggregates
  pub data Selection : Type 0 where
    selection : Bool → Bool → List Item → Parts → Bool → List Item → Option Formula → List (ℕ × Aggregation) → Selection

abbrev pub parts_in : List Part → Parts
parts_in [] = no_part
parts_in (part ∷ others) = part_then part (parts_in others)

abbrev pub groups_in : List (List Part) → Groups
groups_in [] = no_group
groups_in (group ∷ others) = group_then (parts_in group) (groups_in others)
