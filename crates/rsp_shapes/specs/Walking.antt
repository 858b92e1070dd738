-- Words of the way: how the code goes over the parts of a query for the places of `Shapes`.
use Rattle.std.specs.Prelude.{ℕ, Bool, true, false, ◌||◌, ◌&&◌, not, cond, List, Option, None, Some}
use Rattle.std.specs.Bool.{then_some}
use Rattle.std.specs.Option.{option_or}
use Rattle.rsp_expr.specs.declared.slot.Slot.TheVariants.{Variable, Constant}
use Rattle.rsp_query.specs.Groups.{Part, Parts, Groups, Selection, triple, optional, minus, union, graph, window, filter}
use Rattle.rsp_query.specs.Groups.{exists, bind, values, sub, no_part, part_then, no_group, group_then, selection}
use Rattle.rsp_shapes.specs.Shapes.{is_among, is_triple}

-- ---- windows and graphs

abbrev pub are_triples : Parts → Bool
are_triples no_part = true
are_triples (part_then part more) = is_triple part && are_triples more

-- a group of triples, and of at least one
abbrev pub has_just_triples : Parts → Bool
has_just_triples no_part = false
has_just_triples (part_then part more) = are_triples (part_then part more)

abbrev mutual
  -- WINDOW of a name that isn't declared, or GRAPH of a variable whose group hasn't just triples
  pub graph_fault : List (List ℕ) → Part → Option ℕ
  graph_fault windows (triple subject verb object) = None
  graph_fault windows (optional body) = graph_fault_in windows body
  graph_fault windows (minus body) = graph_fault_in windows body
  graph_fault windows (union groups) = graph_fault_among windows groups
  graph_fault windows (graph (Variable v) at body) = then_some (not (has_just_triples body)) at
  graph_fault windows (graph (Constant name) at body) = graph_fault_in windows body
  graph_fault windows (window name at body) =
      cond (is_among windows name) (graph_fault_in windows body) (Some at)
  graph_fault windows (filter condition) = None
  graph_fault windows (exists negated at body) = graph_fault_in windows body
  graph_fault windows (bind v formula) = None
  graph_fault windows (values variables rows) = None
  graph_fault windows (sub inner) = graph_fault_of windows inner

  pub graph_fault_in : List (List ℕ) → Parts → Option ℕ
  graph_fault_in windows no_part = None
  graph_fault_in windows (part_then part more) = option_or (graph_fault windows part) (graph_fault_in windows more)

  pub graph_fault_among : List (List ℕ) → Groups → Option ℕ
  graph_fault_among windows no_group = None
  graph_fault_among windows (group_then group more) =
      option_or (graph_fault_in windows group) (graph_fault_among windows more)

  pub graph_fault_of : List (List ℕ) → Selection → Option ℕ
  graph_fault_of windows (selection distinct star items body grouped keys having aggregates) = graph_fault_in windows body

-- ---- EXISTS

abbrev mutual
  -- triples, WINDOW, GRAPH with an IRI, groups and UNION, of such
  pub is_plain : Part → Bool
  is_plain (triple subject verb object) = true
  is_plain (union groups) = are_plain_groups groups
  is_plain (graph (Variable v) at body) = false
  is_plain (graph (Constant name) at body) = are_plain body
  is_plain (window name at body) = are_plain body
  is_plain (optional body) = false
  is_plain (minus body) = false
  is_plain (filter condition) = false
  is_plain (exists negated at body) = false
  is_plain (bind v formula) = false
  is_plain (values variables rows) = false
  is_plain (sub inner) = false

  pub are_plain : Parts → Bool
  are_plain no_part = true
  are_plain (part_then part more) = is_plain part && are_plain more

  pub are_plain_groups : Groups → Bool
  are_plain_groups no_group = true
  are_plain_groups (group_then group more) = are_plain group && are_plain_groups more

-- such parts, and at the top plain filters too
abbrev pub is_filter : Part → Bool
is_filter (filter condition) = true
is_filter _ = false

abbrev pub can_be_tested : Parts → Bool
can_be_tested no_part = true
can_be_tested (part_then part more) = (is_filter part || is_plain part) && can_be_tested more

abbrev mutual
  -- an EXISTS whose group can't be tested, or at the top of an OPTIONAL's group
  pub exists_fault : Bool → Part → Option ℕ
  exists_fault in_optional (triple subject verb object) = None
  exists_fault in_optional (optional body) = exists_fault_in true body
  exists_fault in_optional (minus body) = exists_fault_in false body
  exists_fault in_optional (union groups) = exists_fault_among groups
  exists_fault in_optional (graph name at body) = exists_fault_in false body
  exists_fault in_optional (window name at body) = exists_fault_in false body
  exists_fault in_optional (filter condition) = None
  exists_fault in_optional (exists negated at body) = then_some (in_optional || not (can_be_tested body)) at
  exists_fault in_optional (bind v formula) = None
  exists_fault in_optional (values variables rows) = None
  exists_fault in_optional (sub inner) = exists_fault_of inner

  pub exists_fault_in : Bool → Parts → Option ℕ
  exists_fault_in in_optional no_part = None
  exists_fault_in in_optional (part_then part more) =
      option_or (exists_fault in_optional part) (exists_fault_in in_optional more)

  pub exists_fault_among : Groups → Option ℕ
  exists_fault_among no_group = None
  exists_fault_among (group_then group more) = option_or (exists_fault_in false group) (exists_fault_among more)

  pub exists_fault_of : Selection → Option ℕ
  exists_fault_of (selection distinct star items body grouped keys having aggregates) = exists_fault_in false body
