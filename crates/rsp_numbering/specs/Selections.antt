-- Definitions: groups and SELECTs with numbers in place of names (SPARQL 1.1 Query, sections 11, 12 and 18.2.2).
use Rattle.std.specs.Prelude.{ℕ, Bool, true, false, List, [], ◌∷◌, ◌++◌, Option, None, Some}
use Rattle.rsp_terms.specs.declared.term.Term.TheVariants as term
use Rattle.rsp_expr.specs.declared.slot.Slot.{Slot}
use Rattle.rsp_expr.specs.declared.slot.Slot.TheVariants as slot
use Rattle.rsp_expr.specs.Formulas.{Formula, Aggregation}
use Rattle.rsp_query.specs.Groups.{Part, optional, minus, union, graph, window, filter, exists, bind, values, sub, Parts}
use Rattle.rsp_query.specs.Groups.{parts_in, no_group, group_then, Selection, selection}
use Rattle.rsp_query.specs.Groups as query
use Rattle.rsp_written.specs.Trees as written
use Rattle.rsp_written.specs.Trees.{Element, Elements, no_element, element_then, Item, shown, computed, Projection, every_name}
use Rattle.rsp_written.specs.Trees.{these, Graph, graph_variable, graph_iri, Selected, selected}
use Rattle.rsp_numbering.specs.Naming.{Scope, scope}
use Rattle.rsp_numbering.specs.Numbered.{Numbered, give, ◌>>=◌, making, each, maybe, numbered_name, opened, apart}
use Rattle.rsp_numbering.specs.Numbered.{aggregates_so_far}
use Rattle.rsp_numbering.specs.Expressions.{expression}
use Rattle.rsp_numbering.specs.Triples.{triples}

-- ---- items and keys: an expression comes before its name

abbrev pub item : List Scope → Item → Numbered query.Item
item at (shown x) = making (λ v. record { variable = v; formula = None }) (numbered_name at x)
item at (computed e x) =
    expression at e >>= λ made. making (λ v. record { variable = v; formula = Some made }) (numbered_name at x)

abbrev pub items_in : Projection → List Item
items_in every_name = []
items_in (these items) = items

abbrev pub is_star : Projection → Bool
is_star every_name = true
is_star (these items) = false

abbrev pub graph_slot : List Scope → Graph → Numbered Slot
graph_slot at (graph_variable x) = making slot.Variable (numbered_name at x)
graph_slot at (graph_iri x) = give (slot.Constant (term.Iri x))

-- ---- elements and SELECTs

abbrev pub is_grouped : List query.Item → Option Formula → List (ℕ × Aggregation) → Bool
is_grouped [] None [] = false
is_grouped keys having aggregates = true

-- one part; one that has a group
abbrev pub one : {A : Type 0} → (A → Part) → Numbered A → Numbered (List Part)
one f made = making (λ a. f a ∷ []) made

abbrev pub holding : (Parts → Part) → Numbered (List Part) → Numbered (List Part)
holding f made = one (λ parts. f (parts_in parts)) made

abbrev mutual
  pub element : List Scope → Element → Numbered (List Part)
  element at (written.triples subject properties) = triples at subject properties
  element at (written.optional_group body) = holding optional (elements at body)
  element at (written.minus_group body) = holding minus (elements at body)
  element at (written.union_of branches) = one union (groups at branches)
  element at (written.graph_group name place body) =
      graph_slot at name >>= λ made. holding (graph made place) (elements at body)
  element at (written.window_group name place body) = holding (window name place) (elements at body)
  element at (written.filter e) = one filter (apart (expression at e))
  element at (written.exists negated place body) = holding (exists negated place) (elements at body)
  element at (written.bind e x) = apart (expression at e) >>= λ made. one (λ v. bind v made) (numbered_name at x)
  element at (written.values names rows) = one (λ numbers. values numbers rows) (each (numbered_name at) names)
  element at (written.sub_select inner) = one sub (select at inner)

  pub elements : List Scope → Elements → Numbered (List Part)
  elements at no_element = give []
  elements at (element_then first more) =
      element at first >>= λ parts. making (λ others. parts ++ others) (elements at more)

  pub groups : List Scope → written.Groups → Numbered query.Groups
  groups at written.no_group = give no_group
  groups at (written.group_then body more) =
      elements at body >>= λ parts. making (λ others. group_then (parts_in parts) others) (groups at more)

  -- a SELECT, within which its own scope is the innermost
  pub select : List Scope → Selected → Numbered Selection
  select at (selected distinct projection body keys having) =
      opened >>= λ number. let here = scope number projection at in
      apart
      (each (item here) (items_in projection) >>= λ items. elements here body >>= λ parts.
      apart (each (item here) keys) >>= λ made_keys. maybe (expression here) having >>= λ condition.
      making
      (λ aggregates. selection distinct (is_star projection) items (parts_in parts) (is_grouped made_keys condition aggregates)
      made_keys condition aggregates)
      aggregates_so_far)
