-- Definitions: how the parts of a rule make its tree.
use Rattle.std.specs.Prelude.{ℕ, ◌∷◌, ◌++◌, Bool, true, false, List, [], Option, None, Some, codes, map, is_some}
use Rattle.rsp_terms.specs.declared.term.Term.{Term}
use Rattle.rsp_terms.specs.declared.term.Term.TheVariants as term
use Rattle.rsp_terms.specs.Terms.{xsd_string}
use Rattle.rsp_written.specs.declared.said.Kind.{Kind}
use Rattle.rsp_written.specs.declared.said.Kind.TheVariants as kind
use Rattle.rsp_written.specs.declared.said.Said.{Said}
use Rattle.rsp_written.specs.declared.literals.Suffix.{Suffix}
use Rattle.rsp_written.specs.declared.literals.Suffix.TheVariants.{InLanguage, OfDatatype}
use Rattle.rsp_written.specs.Trees.{Expr, Exprs, Operands, any_of, all_of, compared, member, sum, product, signed, call}
use Rattle.rsp_written.specs.Trees.{aggregate, no_expr, expr_then, no_operand, operand_then, Way, Ways, inverse, sequence}
use Rattle.rsp_written.specs.Trees.{choice, no_way, way_then, Verb, Node, Nodes, Properties, no_node, node_then, no_property}
use Rattle.rsp_written.specs.Trees.{property_then, Element, Elements, Groups, no_element, element_then, no_group, group_then}
use Rattle.rsp_written.specs.Trees.{triples, Item, Projection, sub_select, selected, Policy, no_policy, Window, Written}

-- ---- literals

abbrev pub xsd : List ℕ → List ℕ
xsd name = codes "http://www.w3.org/2001/XMLSchema#" ++ name

-- a string with its tag or datatype
abbrev pub suffixed : List ℕ → Option Suffix → Term
suffixed text None = term.Literal text xsd_string
suffixed text (Some (InLanguage tag)) = term.Tagged text tag
suffixed text (Some (OfDatatype datatype)) = term.Literal text datatype

abbrev pub string_term : Said × Option Suffix → Term
string_term v = suffixed v.0.text v.1

abbrev pub number_type : Kind → List ℕ
number_type kind.Integer = xsd (codes "integer")
number_type kind.Decimal = xsd (codes "decimal")
number_type _ = xsd (codes "double")

abbrev pub number_term : Said → Term
number_term said = term.Literal said.text (number_type said.kind)

-- with the sign in the lexical form
abbrev pub negative_term : Said → Term
negative_term said = term.Literal (45 ∷ said.text) (number_type said.kind)

abbrev pub signed_term : Option Said × Said → Term
signed_term (None, said) = number_term said
signed_term (Some minus, said) = negative_term said

abbrev pub boolean_term : List ℕ → Term
boolean_term lexical = term.Literal lexical (xsd (codes "boolean"))

-- ---- rows: a single part is itself

abbrev pub exprs_in : List Expr → Exprs
exprs_in [] = no_expr
exprs_in (e ∷ more) = expr_then e (exprs_in more)

abbrev pub operands_in : List (Kind × Expr) → Operands
operands_in [] = no_operand
operands_in (x ∷ more) = operand_then x.0 x.1 (operands_in more)

-- a sign and what stands behind it
abbrev pub signed_part : Said × Expr → Kind × Expr
signed_part v = (v.0.kind, v.1)

abbrev pub parts_of : List (Kind × Expr) → List Expr
parts_of [] = []
parts_of (x ∷ more) = x.1 ∷ parts_of more

abbrev pub any_row : Expr × List (Kind × Expr) → Expr
any_row (e, []) = e
any_row (e, x ∷ more) = any_of (exprs_in (e ∷ x.1 ∷ parts_of more))

abbrev pub all_row : Expr × List (Kind × Expr) → Expr
all_row (e, []) = e
all_row (e, x ∷ more) = all_of (exprs_in (e ∷ x.1 ∷ parts_of more))

abbrev pub sum_row : Expr × List (Kind × Expr) → Expr
sum_row (e, []) = e
sum_row (e, x ∷ more) = sum e (operands_in (x ∷ more))

abbrev pub product_row : Expr × List (Kind × Expr) → Expr
product_row (e, []) = e
product_row (e, x ∷ more) = product e (operands_in (x ∷ more))

-- ---- relations, calls and aggregates

-- what follows a sum: a sign and another sum, or a list behind IN
pub data Relation : Type 0 where
  compared_to : Kind → Expr → Relation
  one_of : Bool → List Expr → Relation

abbrev pub related : Expr × Option Relation → Expr
related (e, None) = e
related (e, Some (compared_to sign other)) = compared sign e other
related (e, Some (one_of negated items)) = member negated e (exprs_in items)

abbrev pub with_sign : Option Said × Expr → Expr
with_sign (None, e) = e
with_sign (Some sign, e) = signed sign.kind e

abbrev pub call_of : Said × List Expr → Expr
call_of v = call v.0.kind (exprs_in v.1)

abbrev pub aggregate_of : Kind → Bool × Expr → Expr
aggregate_of kind v = aggregate kind v.0 v.1

abbrev pub flagged : Option Said × Expr → Bool × Expr
flagged v = (is_some v.0, v.1)

-- ---- paths

abbrev pub ways_in : List Way → Ways
ways_in [] = no_way
ways_in (w ∷ more) = way_then w (ways_in more)

abbrev pub sequence_row : Way × List Way → Way
sequence_row (w, []) = w
sequence_row (w, v ∷ more) = sequence (ways_in (w ∷ v ∷ more))

abbrev pub choice_row : Way × List Way → Way
choice_row (w, []) = w
choice_row (w, v ∷ more) = choice (ways_in (w ∷ v ∷ more))

abbrev pub turned : Option Said × Way → Way
turned (None, w) = w
turned (Some caret, w) = inverse w

-- the verb `a` (SPARQL 1.1 Query, section 4.2.4)
abbrev pub rdf_type : List ℕ
rdf_type = codes "http://www.w3.org/1999/02/22-rdf-syntax-ns#type"

-- ---- triples

abbrev pub nodes_in : List Node → Nodes
nodes_in [] = no_node
nodes_in (n ∷ more) = node_then n (nodes_in more)

abbrev pub properties_in : List (Verb × List Node) → Properties
properties_in [] = no_property
properties_in (p ∷ more) = property_then p.0 (nodes_in p.1) (properties_in more)

-- the properties that are there, in order
abbrev pub present : {A : Type 0} → List (Option A) → List A
present [] = []
present (None ∷ more) = present more
present (Some x ∷ more) = x ∷ present more

abbrev pub property_list : (Verb × List Node) × List (Option (Verb × List Node)) → Properties
property_list v = properties_in (v.0 ∷ present v.1)

abbrev pub some_properties : Option Properties → Properties
some_properties None = no_property
some_properties (Some ps) = ps

-- ---- groups

abbrev pub elements_in : List Element → Elements
elements_in [] = no_element
elements_in (e ∷ more) = element_then e (elements_in more)

abbrev pub groups_in : List (List Element) → Groups
groups_in [] = no_group
groups_in (g ∷ more) = group_then (elements_in g) (groups_in more)

abbrev pub triples_of : Node × Properties → Element
triples_of v = triples v.0 v.1

-- a run of triples, or none
abbrev pub run : Option (List (Node × Properties)) → List Element
run None = []
run (Some ts) = map triples_of ts

abbrev pub keys_or_none : Option (List Item) → List Item
keys_or_none None = []
keys_or_none (Some items) = items

-- a group that is a SELECT
abbrev pub sub_select_of : (Option Said × Projection) × (Option Said × (List Element × (Option (List Item) × Option Expr)))
    → List Element
sub_select_of v =
    sub_select (selected (is_some v.0.0) v.0.1 (elements_in v.1.1.0) (keys_or_none v.1.1.1.0) v.1.1.1.1) ∷ []

-- ---- the query

abbrev pub policy_or_none : Option Policy → Policy
policy_or_none None = no_policy
policy_or_none (Some policy) = policy

abbrev pub written_of : (Said × (List ℕ × Option Policy))
    × ((Option Said × Projection) × (List Window × (List Element × (Option (List Item) × Option Expr)))) → Written
written_of v = record {
  operator = v.0.0.kind;
  output = v.0.1.0;
  policy = policy_or_none v.0.1.1;
  windows = v.1.1.0;
  select = selected (is_some v.1.0.0) v.1.0.1 (elements_in v.1.1.1.0) (keys_or_none v.1.1.1.1.0) v.1.1.1.1.1;
}

-- the later one, where it is there
abbrev pub later : {A : Type 0} → Option A → Option A → Option A
later None first = first
later (Some x) first = Some x

abbrev pub is_nil : List ℕ → Bool
is_nil [] = true
is_nil (c ∷ more) = false
