-- Numbered groups and SELECTs name variables that stand before their end alone.
use Rattle.std.proofs.Common.{ℕ, ◌≤◌, List, [], ◌∷◌, Option, None, Some, arith}
use Rattle.std.specs.List.{AllByRecursion}
use Rattle.std.proofs.Math.Nat.{le_trans}
use Rattle.rsp_expr.specs.Formulas.{Aggregation}
use Rattle.rsp_query.specs.Groups.{Part, optional, minus, union, graph, window, filter, exists, bind, values, sub, parts_in, groups_in}
use Rattle.rsp_written.specs.Trees as written
use Rattle.rsp_written.specs.Trees.{Element, Elements, no_element, element_then, Item, shown, computed, Projection, Graph, graph_variable, graph_iri, Selected, selected}
use Rattle.rsp_numbering.specs.Naming.{Scope, Before, behind, behind_select, number}
use Rattle.rsp_numbering.specs.Naming as naming
use Rattle.rsp_numbering.specs.ExpressionSteps.{behind_expr, numbered_expr}
use Rattle.rsp_numbering.specs.Selections.{items_in}
use Rattle.rsp_numbering.specs.SelectionSteps.{behind_element, behind_elements, behind_graph, behind_groups, behind_having, behind_item, behind_items, behind_names, behind_within, graph_of, groups_of, having_of, item_of, items_of, numbers_of, projection_of, selected_within, with_element, with_elements, with_having_aggregates, with_item_aggregates, with_items_aggregates, within}
use Rattle.rsp_algebra.specs.Nodes.{slot_variables}
use Rattle.rsp_algebra.specs.Fitting.{AggregateFits, AreBelow, argument_variables}
use Rattle.rsp_algebra.proofs.Widths.{all-append}
use Rattle.rsp_shapes.specs.Sound.{GroupsAreSound, ItemIsBelow, PartIsSound, PartsAreSound, SelectionIsSound}
use Rattle.rsp_syntax.proofs.Numbers.{behind_grows, count, number_below}
use Rattle.rsp_syntax.proofs.SoundExpressions.{aggregates_fit, expr_below, expr_grows}
use Rattle.rsp_syntax.proofs.SoundTriples.{triples_grow, triples_sound}

-- ---- behind each there are no fewer variables

item_grows : (at : List Scope) (before : Before) (item : Item) → count before ≤ count (behind_item at before item)
item_grows at before (shown x) = behind_grows before (naming.named at x)
item_grows at before (computed e x) =
    le_trans (expr_grows at before e) (behind_grows (behind_expr at before e) (naming.named at x))

items_grow : (at : List Scope) (before : Before) (items : List Item) → count before ≤ count (behind_items at before items)
items_grow at before [] = omega arith
items_grow at before (item ∷ more) = le_trans (item_grows at before item) (items_grow at (behind_item at before item) more)

having_grows : (at : List Scope) (before : Before) (having : Option written.Expr)
    → count before ≤ count (behind_having at before having)
having_grows at before None = omega arith
having_grows at before (Some e) = expr_grows at before e

graph_grows : (at : List Scope) (before : Before) (name : Graph) → count before ≤ count (behind_graph at before name)
graph_grows at before (graph_variable x) = behind_grows before (naming.named at x)
graph_grows at before (graph_iri x) = omega arith

names_grow : (at : List Scope) (before : Before) (names : List (List ℕ)) → count before ≤ count (behind_names at before names)
names_grow at before [] = omega arith
names_grow at before (x ∷ more) =
    le_trans (behind_grows before (naming.named at x)) (names_grow at (behind before (naming.named at x)) more)

mutual
  element_grows : (at : List Scope) (before : Before) (element : Element)
      → count before ≤ count (behind_element at before element)
  element_grows at before (written.triples subject properties) = triples_grow at before subject properties
  element_grows at before (written.optional_group body) = elements_grow at before body
  element_grows at before (written.minus_group body) = elements_grow at before body
  element_grows at before (written.union_of groups) = groups_grow at before groups
  element_grows at before (written.graph_group name place body) =
      le_trans (graph_grows at before name) (elements_grow at (behind_graph at before name) body)
  element_grows at before (written.window_group name place body) = elements_grow at before body
  element_grows at before (written.filter e) = expr_grows at before e
  element_grows at before (written.exists negated place body) = elements_grow at before body
  element_grows at before (written.bind e x) =
      le_trans (expr_grows at before e) (behind_grows (behind_expr at before e) (naming.named at x))
  element_grows at before (written.values names rows) = names_grow at before names
  element_grows at before (written.sub_select inner) =
      within_grows (within before (projection_of inner) at) (behind_select before) inner

  elements_grow : (at : List Scope) (before : Before) (elements : Elements)
      → count before ≤ count (behind_elements at before elements)
  elements_grow at before no_element = omega arith
  elements_grow at before (element_then element more) =
      le_trans (element_grows at before element) (elements_grow at (behind_element at before element) more)

  groups_grow : (at : List Scope) (before : Before) (groups : written.Groups)
      → count before ≤ count (behind_groups at before groups)
  groups_grow at before written.no_group = omega arith
  groups_grow at before (written.group_then group more) =
      le_trans (elements_grow at before group) (groups_grow at (behind_elements at before group) more)

  within_grows : (at : List Scope) (before : Before) (s : Selected) → count before ≤ count (behind_within at before s)
  within_grows at before (selected distinct projection body keys having) =
      let behind_clause = behind_items at before (items_in projection) in
      let behind_body = behind_elements at behind_clause body in
      let behind_keys = behind_items at behind_body keys in
      le_trans (items_grow at before (items_in projection))
      (le_trans (elements_grow at behind_clause body)
      (le_trans (items_grow at behind_body keys) (having_grows at behind_keys having)))

-- ---- items, HAVING and their aggregates

item_below : (n : ℕ) (at : List Scope) (before : Before) (item : Item) → count (behind_item at before item) ≤ n
    → ItemIsBelow n (item_of at before item)
item_below n at before (shown x) room = (number_below n before (naming.named at x) room, tt)
item_below n at before (computed e x) room =
    let named_by = naming.named at x in (
      number_below n (behind_expr at before e) named_by room,
      expr_below n at before e (le_trans (behind_grows (behind_expr at before e) named_by) room),
    )

items_below : (n : ℕ) (at : List Scope) (before : Before) (items : List Item) → count (behind_items at before items) ≤ n
    → AllByRecursion (ItemIsBelow n) (items_of at before items)
items_below n at before [] room = tt
items_below n at before (item ∷ more) room = (
  item_below n at before item (le_trans (items_grow at (behind_item at before item) more) room),
  items_below n at (behind_item at before item) more room,
)

having_below : (n : ℕ) (at : List Scope) (before : Before) (having : Option written.Expr)
    → count (behind_having at before having) ≤ n → AreBelow n (argument_variables (having_of at before having))
having_below n at before None room = tt
having_below n at before (Some e) room = expr_below n at before e room

item_aggregates_fit : (n : ℕ) (at : List Scope) (before : Before) (those : List (ℕ × Aggregation)) (item : Item)
    → count (behind_item at before item) ≤ n → AllByRecursion (AggregateFits n) those
    → AllByRecursion (AggregateFits n) (with_item_aggregates at before those item)
item_aggregates_fit n at before those (shown x) room fit = fit
item_aggregates_fit n at before those (computed e x) room fit =
    aggregates_fit n at before those e (le_trans (behind_grows (behind_expr at before e) (naming.named at x)) room) fit

items_aggregates_fit : (n : ℕ) (at : List Scope) (before : Before) (those : List (ℕ × Aggregation)) (items : List Item)
    → count (behind_items at before items) ≤ n → AllByRecursion (AggregateFits n) those
    → AllByRecursion (AggregateFits n) (with_items_aggregates at before those items)
items_aggregates_fit n at before those [] room fit = fit
items_aggregates_fit n at before those (item ∷ more) room fit =
    items_aggregates_fit n at (behind_item at before item) (with_item_aggregates at before those item) more room
    (item_aggregates_fit n at before those item (le_trans (items_grow at (behind_item at before item) more) room) fit)

having_aggregates_fit : (n : ℕ) (at : List Scope) (before : Before) (those : List (ℕ × Aggregation))
    (having : Option written.Expr) → count (behind_having at before having) ≤ n → AllByRecursion (AggregateFits n) those
    → AllByRecursion (AggregateFits n) (with_having_aggregates at before those having)
having_aggregates_fit n at before those None room fit = fit
having_aggregates_fit n at before those (Some e) room fit = aggregates_fit n at before those e room fit

-- ---- names of GRAPH, and VALUES

graph_below : (n : ℕ) (at : List Scope) (before : Before) (name : Graph) → count (behind_graph at before name) ≤ n
    → AreBelow n (slot_variables (graph_of at before name))
graph_below n at before (graph_variable x) room = (number_below n before (naming.named at x) room, tt)
graph_below n at before (graph_iri x) room = tt

names_below : (n : ℕ) (at : List Scope) (before : Before) (names : List (List ℕ)) → count (behind_names at before names) ≤ n
    → AreBelow n (numbers_of at before names)
names_below n at before [] room = tt
names_below n at before (x ∷ more) room =
    let after = behind before (naming.named at x) in
    (number_below n before (naming.named at x) (le_trans (names_grow at after more) room), names_below n at after more room)

-- ---- groups and SELECTs

parts_sound : (n : ℕ) (those : List Part) → AllByRecursion (PartIsSound n) those → PartsAreSound n (parts_in those)
parts_sound n [] sound = tt
parts_sound n (part ∷ more) sound = (sound.0, parts_sound n more sound.1)

mutual
  element_sound : (n : ℕ) (at : List Scope) (before : Before) (those : List Part) (element : Element)
      → count (behind_element at before element) ≤ n → AllByRecursion (PartIsSound n) those
      → AllByRecursion (PartIsSound n) (with_element at before those element)
  element_sound n at before those (written.triples subject properties) room sound =
      triples_sound n at before those subject properties room sound
  element_sound n at before those (written.optional_group body) room sound =
      all-append (PartIsSound n) those (optional (parts_in (with_elements at before [] body)) ∷ []) sound
      (parts_sound n (with_elements at before [] body) (elements_sound n at before [] body room tt), tt)
  element_sound n at before those (written.minus_group body) room sound =
      all-append (PartIsSound n) those (minus (parts_in (with_elements at before [] body)) ∷ []) sound
      (parts_sound n (with_elements at before [] body) (elements_sound n at before [] body room tt), tt)
  element_sound n at before those (written.union_of groups) room sound =
      all-append (PartIsSound n) those (union (groups_in (groups_of at before groups)) ∷ []) sound
      (groups_sound n at before groups room, tt)
  element_sound n at before those (written.graph_group name place body) room sound =
      let inner = behind_graph at before name in
      all-append (PartIsSound n) those (graph (graph_of at before name) place (parts_in (with_elements at inner [] body)) ∷ []) sound (
        (
          graph_below n at before name (le_trans (elements_grow at inner body) room),
          parts_sound n (with_elements at inner [] body) (elements_sound n at inner [] body room tt),
        ),
        tt,
      )
  element_sound n at before those (written.window_group name place body) room sound =
      all-append (PartIsSound n) those (window name place (parts_in (with_elements at before [] body)) ∷ []) sound
      (parts_sound n (with_elements at before [] body) (elements_sound n at before [] body room tt), tt)
  element_sound n at before those (written.filter e) room sound =
      all-append (PartIsSound n) those (filter (numbered_expr at before e) ∷ []) sound (expr_below n at before e room, tt)
  element_sound n at before those (written.exists negated place body) room sound =
      all-append (PartIsSound n) those (exists negated place (parts_in (with_elements at before [] body)) ∷ []) sound
      (parts_sound n (with_elements at before [] body) (elements_sound n at before [] body room tt), tt)
  element_sound n at before those (written.bind e x) room sound =
      let after = behind_expr at before e in
      let named_by = naming.named at x in
      all-append (PartIsSound n) those (bind (number after named_by) (numbered_expr at before e) ∷ []) sound
      ((number_below n after named_by room, expr_below n at before e (le_trans (behind_grows after named_by) room)), tt)
  element_sound n at before those (written.values names rows) room sound =
      all-append (PartIsSound n) those (values (numbers_of at before names) rows ∷ []) sound (names_below n at before names room, tt)
  element_sound n at before those (written.sub_select inner) room sound =
      let around = within before (projection_of inner) at in
      all-append (PartIsSound n) those (sub (selected_within around (behind_select before) inner) ∷ []) sound
      (within_sound n around (behind_select before) inner room, tt)

  elements_sound : (n : ℕ) (at : List Scope) (before : Before) (those : List Part) (elements : Elements)
      → count (behind_elements at before elements) ≤ n → AllByRecursion (PartIsSound n) those
      → AllByRecursion (PartIsSound n) (with_elements at before those elements)
  elements_sound n at before those no_element room sound = sound
  elements_sound n at before those (element_then element more) room sound =
      let after = behind_element at before element in
      elements_sound n at after (with_element at before those element) more room
      (element_sound n at before those element (le_trans (elements_grow at after more) room) sound)

  groups_sound : (n : ℕ) (at : List Scope) (before : Before) (groups : written.Groups) → count (behind_groups at before groups) ≤ n
      → GroupsAreSound n (groups_in (groups_of at before groups))
  groups_sound n at before written.no_group room = tt
  groups_sound n at before (written.group_then group more) room =
      let after = behind_elements at before group in
      let inside = le_trans (groups_grow at after more) room in (
        parts_sound n (with_elements at before [] group) (elements_sound n at before [] group inside tt),
        groups_sound n at after more room,
      )

  pub within_sound : (n : ℕ) (at : List Scope) (before : Before) (s : Selected) → count (behind_within at before s) ≤ n
      → SelectionIsSound n (selected_within at before s)
  within_sound n at before (selected distinct projection body keys having) room =
      let items = items_in projection in
      let behind_clause = behind_items at before items in
      let behind_body = behind_elements at behind_clause body in
      let behind_keys = behind_items at behind_body keys in
      let keys_room = le_trans (having_grows at behind_keys having) room in
      let body_room = le_trans (items_grow at behind_body keys) keys_room in
      let clause_room = le_trans (elements_grow at behind_clause body) body_room in
      let folded = items_aggregates_fit n at before [] items clause_room tt in (
        items_below n at before items clause_room,
        (
          parts_sound n (with_elements at behind_clause [] body) (elements_sound n at behind_clause [] body body_room tt),
          (
            items_below n at behind_body keys keys_room,
            (
              having_below n at behind_keys having room,
              having_aggregates_fit n at behind_keys (with_items_aggregates at before [] items) having room folded,
            ),
          ),
        ),
      )
