-- Definitions: the variables that are in scope behind a part or a group (SPARQL 1.1 Query, section 18.2.1).
use Rattle.std.specs.Prelude.{ℕ, Bool, false, ◌||◌, ◌&&◌, not, nat_eq, cond, List, [], codes, map, slice_index_or}
use Rattle.std.specs.List.{starts_with}
use Rattle.std.specs.Str.{bytes_eq}
use Rattle.rsp_expr.specs.declared.slot.Slot.{Slot}
use Rattle.rsp_expr.specs.declared.slot.Slot.TheVariants.{Variable, Constant}
use Rattle.rsp_query.specs.Paths.{Way, Ways, step, inverse, sequence, choice, no_way, way_then}
use Rattle.rsp_query.specs.Groups.{Item, Part, Parts, Groups, Selection, triple, optional, union, graph, window, bind, values}
use Rattle.rsp_query.specs.Groups.{sub, no_part, part_then, no_group, group_then, selection}
use Rattle.rsp_algebra.specs.Patterns.{among}

-- the name of a variable by its number
abbrev pub name_of : List (List ℕ) → ℕ → List ℕ
name_of names v = slice_index_or names v []

-- whether it is one that the text gives: a label is called `_:x`, a blank node in brackets `[]`, an aggregate `()`
abbrev pub is_given : List ℕ → Bool
is_given name = not (starts_with nat_eq name (codes "_:") || (bytes_eq name (codes "[]") || bytes_eq name (codes "()")))

abbrev pub variables_of : List Item → List ℕ
variables_of items = map (λ item. item.variable) items

abbrev pub is_variable : Slot → ℕ → Bool
is_variable (Variable w) v = nat_eq v w
is_variable (Constant _) v = false

abbrev mutual
  pub is_in_way : Way → ℕ → Bool
  is_in_way (step s) v = is_variable s v
  is_in_way (inverse way) v = is_in_way way v
  is_in_way (sequence ways) v = is_in_ways ways v
  is_in_way (choice ways) v = is_in_ways ways v

  pub is_in_ways : Ways → ℕ → Bool
  is_in_ways no_way v = false
  is_in_ways (way_then way more) v = is_in_way way v || is_in_ways more v

abbrev mutual
  pub is_visible : List (List ℕ) → Part → ℕ → Bool
  is_visible names (triple subject verb object) v =
      is_variable subject v || (is_in_way verb v || is_variable object v)
  is_visible names (optional body) v = is_visible_in names body v
  is_visible names (union groups) v = is_visible_among names groups v
  is_visible names (graph name at body) v = is_variable name v || is_visible_in names body v
  is_visible names (window name at body) v = is_visible_in names body v
  is_visible names (bind w formula) v = nat_eq v w
  is_visible names (values variables rows) v = among variables v
  is_visible names (sub inner) v = is_projected names inner v
  is_visible names _ v = false

  pub is_visible_in : List (List ℕ) → Parts → ℕ → Bool
  is_visible_in names no_part v = false
  is_visible_in names (part_then part more) v = is_visible names part v || is_visible_in names more v

  pub is_visible_among : List (List ℕ) → Groups → ℕ → Bool
  is_visible_among names no_group v = false
  is_visible_among names (group_then group more) v = is_visible_in names group v || is_visible_among names more v

  -- of a SELECT: `*` projects what is visible in its group and has a name in the text
  pub is_projected : List (List ℕ) → Selection → ℕ → Bool
  is_projected names (selection distinct star items body grouped keys having aggregates) v =
      cond star (is_given (name_of names v) && is_visible_in names body v) (among (variables_of items) v)
