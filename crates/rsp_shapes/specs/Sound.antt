-- Words of the way: what a query's variables and aggregates owe: each variable is below the number of variables, and an
-- aggregate without argument counts rows.
use Rattle.std.specs.Prelude.{ℕ, ◌<◌, ⊤, List, length}
use Rattle.std.specs.List.{AllByRecursion}
use Rattle.rsp_query.specs.Paths.{Way, Ways, step, inverse, sequence, choice, no_way, way_then}
use Rattle.rsp_query.specs.Groups.{Item, Part, Parts, Groups, Selection, triple, optional, minus, union, graph, window, filter}
use Rattle.rsp_query.specs.Groups.{exists, bind, values, sub, no_part, part_then, no_group, group_then, selection}
use Rattle.rsp_query.specs.Queries.{Registered}
use Rattle.rsp_algebra.specs.Nodes.{formula_variables, slot_variables}
use Rattle.rsp_algebra.specs.Fitting.{AreBelow, AggregateFits, argument_variables}

abbrev mutual
  pub WayIsBelow : ℕ → Way → Type 0
  WayIsBelow n (step s) = AreBelow n (slot_variables s)
  WayIsBelow n (inverse way) = WayIsBelow n way
  WayIsBelow n (sequence ways) = WaysAreBelow n ways
  WayIsBelow n (choice ways) = WaysAreBelow n ways

  pub WaysAreBelow : ℕ → Ways → Type 0
  WaysAreBelow n no_way = ⊤
  WaysAreBelow n (way_then way more) = WayIsBelow n way × WaysAreBelow n more

abbrev pub ItemIsBelow : ℕ → Item → Type 0
ItemIsBelow n item = (item.variable < n) × AreBelow n (argument_variables item.formula)

abbrev mutual
  pub PartIsSound : ℕ → Part → Type 0
  PartIsSound n (triple subject verb object) =
      AreBelow n (slot_variables subject) × (WayIsBelow n verb × AreBelow n (slot_variables object))
  PartIsSound n (optional body) = PartsAreSound n body
  PartIsSound n (minus body) = PartsAreSound n body
  PartIsSound n (union groups) = GroupsAreSound n groups
  PartIsSound n (graph name at body) = AreBelow n (slot_variables name) × PartsAreSound n body
  PartIsSound n (window name at body) = PartsAreSound n body
  PartIsSound n (filter condition) = AreBelow n (formula_variables condition)
  PartIsSound n (exists negated at body) = PartsAreSound n body
  PartIsSound n (bind v formula) = (v < n) × AreBelow n (formula_variables formula)
  PartIsSound n (values variables rows) = AreBelow n variables
  PartIsSound n (sub inner) = SelectionIsSound n inner

  pub PartsAreSound : ℕ → Parts → Type 0
  PartsAreSound n no_part = ⊤
  PartsAreSound n (part_then part more) = PartIsSound n part × PartsAreSound n more

  pub GroupsAreSound : ℕ → Groups → Type 0
  GroupsAreSound n no_group = ⊤
  GroupsAreSound n (group_then group more) = PartsAreSound n group × GroupsAreSound n more

  pub SelectionIsSound : ℕ → Selection → Type 0
  SelectionIsSound n (selection distinct star items body grouped keys having aggregates) =
      AllByRecursion (ItemIsBelow n) items
      × (PartsAreSound n body
      × (AllByRecursion (ItemIsBelow n) keys
      × (AreBelow n (argument_variables having) × AllByRecursion (AggregateFits n) aggregates)))

abbrev pub IsSound : Registered → Type 0
IsSound q = SelectionIsSound (length q.variables) q.selection
