-- Groups and SELECTs, their place behind, their aggregates and their operators by one function are those by a word of each.
use Rattle.std.proofs.Common.{◌≡◌, ℕ, List, [], ◌∷◌, ◌++◌, Option, None, Some, refl, sym, ap, ◌∙◌, ◌+◌, append_assoc, append-nil, arith}
use Rattle.std.specs.Prelude.{option_to_list, sum_by}
use Rattle.std.proofs.lemmas.List.Sums.{sum_by-cons}
use Rattle.rsp_query.specs.Groups.{Part, optional, minus, graph, window, exists, parts_in, groups_in}
use Rattle.rsp_written.specs.Trees as written
use Rattle.rsp_written.specs.Trees.{Element, Elements, no_element, element_then, Item, shown, computed, Graph, graph_variable, graph_iri, Selected, selected}
use Rattle.rsp_numbering.specs.Naming.{Scope, behind_select, scope}
use Rattle.rsp_numbering.specs.Numbered.{State, each, maybe, numbered_name}
use Rattle.rsp_numbering.specs.Expressions.{expression}
use Rattle.rsp_numbering.specs.Selections.{element, elements, graph_slot, groups, item, items_in, select}
use Rattle.rsp_numbering.specs.SelectionSteps.{behind_element, behind_elements, behind_graph, behind_groups, behind_having, behind_item, behind_items, behind_names, behind_selected, graph_of, groups_of, having_of, item_of, items_of, numbers_of, selected_of, with_element, with_elements, with_having_aggregates, with_item_aggregates, with_items_aggregates}
use Rattle.rsp_numbering.specs.Operators.{element_operators, group_operators, groups_operators, item_operators, operators, select_operators}
use Rattle.rsp_numbering.proofs.MadeExpressions.{again, expression_made}
use Rattle.rsp_numbering.proofs.MadeTriples.{triples_made}

-- ---- items, keys, HAVING, names of GRAPH and the columns of VALUES

abbrev past_item : List Scope → State → Item → State
past_item at state x = record {
  before = behind_item at state.before x;
  aggregates = with_item_aggregates at state.before state.aggregates x;
  operators = state.operators + item_operators x;
}

abbrev past_items : List Scope → State → List Item → State
past_items at state items = record {
  before = behind_items at state.before items;
  aggregates = with_items_aggregates at state.before state.aggregates items;
  operators = state.operators + sum_by item_operators items;
}

abbrev past_having : List Scope → State → Option written.Expr → State
past_having at state having = record {
  before = behind_having at state.before having;
  aggregates = with_having_aggregates at state.before state.aggregates having;
  operators = state.operators + sum_by operators (option_to_list having);
}

item_made : (at : List Scope) (x : Item) (state : State)
    → item at x state ≡ (item_of at state.before x, past_item at state x)
item_made at (shown x) state = again _ (past_item at state (shown x)) _ _ (omega arith)
item_made at (computed e x) state = rw (expression_made at e state) refl

items_made : (at : List Scope) (items : List Item) (state : State)
    → each (item at) items state ≡ (items_of at state.before items, past_items at state items)
items_made at [] state = again _ state _ _ (omega arith)
items_made at (x ∷ more) state =
    let first = sum_by-cons item_operators x more in
    rw (item_made at x state)
    (rw (items_made at more (past_item at state x)) (again _ (past_items at (past_item at state x) more) _ _ (omega (arith, first))))

names_made : (at : List Scope) (names : List (List ℕ)) (state : State)
    → each (numbered_name at) names state
    ≡ (numbers_of at state.before names, record state { before = behind_names at state.before names })
names_made at [] state = refl
names_made at (x ∷ more) state = rw (names_made at more (numbered_name at x state).1) refl

having_made : (at : List Scope) (having : Option written.Expr) (state : State)
    → maybe (expression at) having state ≡ (having_of at state.before having, past_having at state having)
having_made at None state = again _ state _ _ (omega arith)
having_made at (Some e) state =
    rw (expression_made at e state) (again _ (past_having at state (Some e)) _ _ (omega arith))

graph_made : (at : List Scope) (name : Graph) (state : State)
    → graph_slot at name state ≡ (graph_of at state.before name, record state { before = behind_graph at state.before name })
graph_made at (graph_variable x) state = refl
graph_made at (graph_iri x) state = refl

-- ---- groups

-- behind an element, a group and several, whose aggregates are their own
abbrev past_element : List Scope → State → Element → State
past_element at state x =
    record state { before = behind_element at state.before x; operators = state.operators + element_operators x }

abbrev past_elements : List Scope → State → Elements → State
past_elements at state body =
    record state { before = behind_elements at state.before body; operators = state.operators + group_operators body }

abbrev past_groups : List Scope → State → written.Groups → State
past_groups at state branches =
    record state { before = behind_groups at state.before branches; operators = state.operators + groups_operators branches }

abbrev past_select : List Scope → State → Selected → State
past_select at state x =
    record state { before = behind_selected at state.before x; operators = state.operators + select_operators x }

-- the same but for how a number of operators is written
written_so : (state : State) (m n : ℕ) → m ≡ n → record state { operators = m } ≡ record state { operators = n }
written_so state m n is = ap (λ k. record state { operators = k }) is

mutual
  element_made : (at : List Scope) (those : List Part) (x : Element) (state : State)
      → (those ++ (element at x state).0 ≡ with_element at state.before those x) × ((element at x state).1 ≡ past_element at state x)
  element_made at those (written.triples subject properties) state =
      let made = triples_made at those subject properties state in
      (made.0, made.1 ∙ written_so (past_element at state (written.triples subject properties)) _ _ (omega arith))
  element_made at those (written.optional_group body) state =
      let made = elements_made at [] body state in
      (ap (λ parts. those ++ (optional (parts_in parts) ∷ [])) made.0, made.1)
  element_made at those (written.minus_group body) state =
      let made = elements_made at [] body state in
      (ap (λ parts. those ++ (minus (parts_in parts) ∷ [])) made.0, made.1)
  element_made at those (written.union_of branches) state = rw (groups_made at branches state) (refl, refl)
  element_made at those (written.graph_group name place body) state =
      let made = elements_made at [] body (record state { before = behind_graph at state.before name }) in
      rw (graph_made at name state)
      (ap (λ parts. those ++ (graph (graph_of at state.before name) place (parts_in parts) ∷ [])) made.0, made.1)
  element_made at those (written.window_group name place body) state =
      let made = elements_made at [] body state in
      (ap (λ parts. those ++ (window name place (parts_in parts) ∷ [])) made.0, made.1)
  element_made at those (written.filter e) state =
      rw (expression_made at e (record state { aggregates = [] })) (refl, refl)
  element_made at those (written.exists negated place body) state =
      let made = elements_made at [] body state in
      (ap (λ parts. those ++ (exists negated place (parts_in parts) ∷ [])) made.0, made.1)
  element_made at those (written.bind e x) state =
      rw (expression_made at e (record state { aggregates = [] })) (refl, refl)
  element_made at those (written.values names rows) state =
      rw (names_made at names state) (refl, written_so (past_element at state (written.values names rows)) _ _ (omega arith))
  element_made at those (written.sub_select inner) state = rw (select_made at inner state) (refl, refl)

  elements_made : (at : List Scope) (those : List Part) (body : Elements) (state : State)
      → (those ++ (elements at body state).0 ≡ with_elements at state.before those body)
      × ((elements at body state).1 ≡ past_elements at state body)
  elements_made at those no_element state = (append-nil those, written_so state _ _ (omega arith))
  elements_made at those (element_then x more) state =
      let first = element_made at those x state in
      let behind : State = past_element at state x in
      let others = elements_made at (with_element at state.before those x) more behind in
      rw (first.1) (
        sym (append_assoc those (element at x state).0 (elements at more behind).0)
            ∙ ap (λ parts. parts ++ (elements at more behind).0) first.0
            ∙ others.0,
        others.1 ∙ written_so (past_elements at behind more) _ _ (omega arith),
      )

  groups_made : (at : List Scope) (branches : written.Groups) (state : State)
      → groups at branches state ≡ (groups_in (groups_of at state.before branches), past_groups at state branches)
  groups_made at written.no_group state = again _ state _ _ (omega arith)
  groups_made at (written.group_then body more) state =
      let first = elements_made at [] body state in
      let parts : (elements at body state).0 ≡ with_elements at state.before [] body = first.0 in
      let behind : State = past_elements at state body in
      rw (first.1, parts) (rw (groups_made at more behind) (again _ (past_groups at behind more) _ _ (omega arith)))

  pub select_made : (at : List Scope) (x : Selected) (state : State)
      → select at x state ≡ (selected_of at state.before x, past_select at state x)
  select_made at (selected distinct projection body keys having) state =
      let here = scope state.before.selects projection at in
      let opened : State = record state { before = behind_select state.before; aggregates = [] } in
      let behind_clause : State = past_items here opened (items_in projection) in
      let first = elements_made here [] body behind_clause in
      let parts : (elements here body behind_clause).0 ≡ with_elements here behind_clause.before [] body = first.0 in
      let behind_body : State = past_elements here behind_clause body in
      let keys_apart : State = record behind_body { aggregates = [] } in
      let behind_keys : State = record (past_items here keys_apart keys) { aggregates = behind_clause.aggregates } in
      rw (items_made here (items_in projection) opened)
      (rw (first.1, parts)
      (rw (items_made here keys keys_apart)
      (rw (having_made here having behind_keys)
      (again _ (past_select at state (selected distinct projection body keys having)) _ _ (omega arith)))))
