-- Words of the way: of groups and SELECTs what is made of them, what stands behind them and their aggregates, each by a word of
-- its own.
use Rattle.std.specs.Prelude.{ℕ, Bool, List, [], ◌∷◌, ◌++◌, Option, None, Some}
use Rattle.rsp_terms.specs.declared.term.Term.TheVariants as term
use Rattle.rsp_expr.specs.declared.slot.Slot.{Slot}
use Rattle.rsp_expr.specs.declared.slot.Slot.TheVariants as slot
use Rattle.rsp_expr.specs.Formulas.{Formula, Aggregation}
use Rattle.rsp_query.specs.Groups.{Part, optional, minus, union, graph, window, filter, exists, bind, values, sub, Parts}
use Rattle.rsp_query.specs.Groups.{parts_in, groups_in, Selection, selection}
use Rattle.rsp_query.specs.Groups as query
use Rattle.rsp_written.specs.Trees as written
use Rattle.rsp_written.specs.Trees.{Element, Elements, no_element, element_then, Item, shown, computed, Projection, Graph}
use Rattle.rsp_written.specs.Trees.{graph_variable, graph_iri, Selected, selected}
use Rattle.rsp_numbering.specs.Naming.{Scope, Before, number, behind, behind_select, scope}
use Rattle.rsp_numbering.specs.Naming as naming
use Rattle.rsp_numbering.specs.Selections.{is_grouped, is_star, items_in}
use Rattle.rsp_numbering.specs.ExpressionSteps.{behind_expr, numbered_expr, with_aggregates}
use Rattle.rsp_numbering.specs.TripleSteps.{with_triples, behind_triples}

-- ---- items and keys: an expression comes before its name

abbrev pub behind_item : List Scope → Before → Item → Before
behind_item at before (shown x) = behind before (naming.named at x)
behind_item at before (computed e x) = behind (behind_expr at before e) (naming.named at x)

abbrev pub item_of : List Scope → Before → Item → query.Item
item_of at before (shown x) = record { variable = number before (naming.named at x); formula = None }
item_of at before (computed e x) =
    record { variable = number (behind_expr at before e) (naming.named at x); formula = Some (numbered_expr at before e) }

abbrev pub with_item_aggregates : List Scope → Before → List (ℕ × Aggregation) → Item → List (ℕ × Aggregation)
with_item_aggregates at before those (shown x) = those
with_item_aggregates at before those (computed e x) = with_aggregates at before those e

abbrev pub behind_items : List Scope → Before → List Item → Before
behind_items at before [] = before
behind_items at before (item ∷ more) = behind_items at (behind_item at before item) more

abbrev pub items_of : List Scope → Before → List Item → List query.Item
items_of at before [] = []
items_of at before (item ∷ more) = item_of at before item ∷ items_of at (behind_item at before item) more

abbrev pub with_items_aggregates : List Scope → Before → List (ℕ × Aggregation) → List Item → List (ℕ × Aggregation)
with_items_aggregates at before those [] = those
with_items_aggregates at before those (item ∷ more) =
    with_items_aggregates at (behind_item at before item) (with_item_aggregates at before those item) more

-- ---- HAVING

abbrev pub behind_having : List Scope → Before → Option written.Expr → Before
behind_having at before None = before
behind_having at before (Some e) = behind_expr at before e

abbrev pub having_of : List Scope → Before → Option written.Expr → Option Formula
having_of at before None = None
having_of at before (Some e) = Some (numbered_expr at before e)

abbrev pub with_having_aggregates : List Scope → Before → List (ℕ × Aggregation) → Option written.Expr → List (ℕ × Aggregation)
with_having_aggregates at before those None = those
with_having_aggregates at before those (Some e) = with_aggregates at before those e

-- ---- names of GRAPH, and VALUES

abbrev pub behind_graph : List Scope → Before → Graph → Before
behind_graph at before (graph_variable x) = behind before (naming.named at x)
behind_graph at before (graph_iri x) = before

abbrev pub graph_of : List Scope → Before → Graph → Slot
graph_of at before (graph_variable x) = slot.Variable (number before (naming.named at x))
graph_of at before (graph_iri x) = slot.Constant (term.Iri x)

abbrev pub behind_names : List Scope → Before → List (List ℕ) → Before
behind_names at before [] = before
behind_names at before (x ∷ more) = behind_names at (behind before (naming.named at x)) more

abbrev pub numbers_of : List Scope → Before → List (List ℕ) → List ℕ
numbers_of at before [] = []
numbers_of at before (x ∷ more) = number before (naming.named at x) ∷ numbers_of at (behind before (naming.named at x)) more

-- ---- behind elements and SELECTs

-- within a SELECT that begins here
abbrev pub within : Before → Projection → List Scope → List Scope
within before projection at = scope before.selects projection at

abbrev pub projection_of : Selected → Projection
projection_of (selected distinct projection body keys having) = projection

abbrev mutual
  pub behind_element : List Scope → Before → Element → Before
  behind_element at before (written.triples subject properties) = behind_triples at before subject properties
  behind_element at before (written.optional_group body) = behind_elements at before body
  behind_element at before (written.minus_group body) = behind_elements at before body
  behind_element at before (written.union_of groups) = behind_groups at before groups
  behind_element at before (written.graph_group name place body) = behind_elements at (behind_graph at before name) body
  behind_element at before (written.window_group name place body) = behind_elements at before body
  behind_element at before (written.filter e) = behind_expr at before e
  behind_element at before (written.exists negated place body) = behind_elements at before body
  behind_element at before (written.bind e x) = behind (behind_expr at before e) (naming.named at x)
  behind_element at before (written.values names rows) = behind_names at before names
  behind_element at before (written.sub_select inner) =
      behind_within (within before (projection_of inner) at) (behind_select before) inner

  pub behind_elements : List Scope → Before → Elements → Before
  behind_elements at before no_element = before
  behind_elements at before (element_then element more) = behind_elements at (behind_element at before element) more

  pub behind_groups : List Scope → Before → written.Groups → Before
  behind_groups at before written.no_group = before
  behind_groups at before (written.group_then group more) = behind_groups at (behind_elements at before group) more

  -- behind a SELECT, from behind its word on
  pub behind_within : List Scope → Before → Selected → Before
  behind_within at before (selected distinct projection body keys having) =
      behind_having at
      (behind_items at (behind_elements at (behind_items at before (items_in projection)) body) keys)
      having

abbrev pub behind_selected : List Scope → Before → Selected → Before
behind_selected at before s = behind_within (within before (projection_of s) at) (behind_select before) s

-- ---- elements and SELECTs

-- a SELECT of its parts
abbrev pub selection_of : Bool → Projection → List query.Item → Parts → List query.Item → Option Formula → List (ℕ × Aggregation)
    → Selection
selection_of distinct projection items body keys having aggregates =
    selection distinct (is_star projection) items body (is_grouped keys having aggregates) keys having aggregates

abbrev mutual
  -- the parts so far, and behind them those of an element
  pub with_element : List Scope → Before → List Part → Element → List Part
  with_element at before those (written.triples subject properties) = with_triples at before those subject properties
  with_element at before those (written.optional_group body) =
      those ++ (optional (parts_in (with_elements at before [] body)) ∷ [])
  with_element at before those (written.minus_group body) = those ++ (minus (parts_in (with_elements at before [] body)) ∷ [])
  with_element at before those (written.union_of groups) = those ++ (union (groups_in (groups_of at before groups)) ∷ [])
  with_element at before those (written.graph_group name place body) =
      those ++ (graph (graph_of at before name) place (parts_in (with_elements at (behind_graph at before name) [] body)) ∷ [])
  with_element at before those (written.window_group name place body) =
      those ++ (window name place (parts_in (with_elements at before [] body)) ∷ [])
  with_element at before those (written.filter e) = those ++ (filter (numbered_expr at before e) ∷ [])
  with_element at before those (written.exists negated place body) =
      those ++ (exists negated place (parts_in (with_elements at before [] body)) ∷ [])
  with_element at before those (written.bind e x) =
      those ++ (bind (number (behind_expr at before e) (naming.named at x)) (numbered_expr at before e) ∷ [])
  with_element at before those (written.values names rows) = those ++ (values (numbers_of at before names) rows ∷ [])
  with_element at before those (written.sub_select inner) =
      those ++ (sub (selected_within (within before (projection_of inner) at) (behind_select before) inner) ∷ [])

  pub with_elements : List Scope → Before → List Part → Elements → List Part
  with_elements at before those no_element = those
  with_elements at before those (element_then element more) =
      with_elements at (behind_element at before element) (with_element at before those element) more

  pub groups_of : List Scope → Before → written.Groups → List (List Part)
  groups_of at before written.no_group = []
  groups_of at before (written.group_then group more) =
      with_elements at before [] group ∷ groups_of at (behind_elements at before group) more

  -- a SELECT, from behind its word on
  pub selected_within : List Scope → Before → Selected → Selection
  selected_within at before (selected distinct projection body keys having) =
      let behind_clause = behind_items at before (items_in projection) in
      let behind_body = behind_elements at behind_clause body in
      let behind_keys = behind_items at behind_body keys in
      selection_of distinct projection (items_of at before (items_in projection))
      (parts_in (with_elements at behind_clause [] body)) (items_of at behind_body keys) (having_of at behind_keys having)
      (with_having_aggregates at behind_keys (with_items_aggregates at before [] (items_in projection)) having)

abbrev pub selected_of : List Scope → Before → Selected → Selection
selected_of at before s = selected_within (within before (projection_of s) at) (behind_select before) s
