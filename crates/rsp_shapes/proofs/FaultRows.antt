-- Worked rows: the first faults of shapes and scopes.
use Rattle.std.proofs.Common.{◌≡◌, ℕ, Bool, true, false, List, [], ◌∷◌, map, refl, Option, Some, None, codes}
use Rattle.rsp_terms.specs.declared.term.Term.TheVariants as term
use Rattle.rsp_expr.specs.declared.slot.Slot.TheVariants as slot
use Rattle.rsp_functions.specs.declared.aggregate.Kind.TheVariants as kind
use Rattle.rsp_expr.specs.Formulas as formula
use Rattle.rsp_expr.specs.Formulas.{Formula, Aggregation}
use Rattle.rsp_query.specs.Paths.{step}
use Rattle.rsp_query.specs.Groups as query
use Rattle.rsp_query.specs.Groups.{Item, Part, Parts, Selection, parts_in, groups_in, selection}
use Rattle.rsp_shapes.specs.declared.unscoped.Unscoped.{Unscoped}
use Rattle.rsp_shapes.specs.declared.unscoped.Unscoped.TheVariants.{Star, Variable}
use Rattle.rsp_expr.specs.Errors.{first_value}
use Rattle.rsp_query.specs.Walks.{parts_within}
use Rattle.rsp_shapes.specs.Shapes.{graph_fault, exists_fault}
use Rattle.rsp_shapes.specs.Scopes.{scope_fault_of}

tp : ℕ → ℕ → Part
tp s o = query.triple (slot.Variable s) (step (slot.Constant (term.Iri (codes "p")))) (slot.Variable o)

var : ℕ → Formula
var v = formula.variable v

shown : ℕ → Item
shown v = record { variable = v; formula = None }

named : Formula → ℕ → Item
named f v = record { variable = v; formula = Some f }

group : List Part → Parts
group parts = parts_in parts

-- ---- windows and graphs

graphs : List Part → Option ℕ
graphs parts = first_value (map (λ p. graph_fault (codes "w" ∷ []) p.1) (parts_within false (parts_in parts)))

declared_window : graphs (query.window (codes "w") 1 (group (tp 0 1 ∷ [])) ∷ []) ≡ None
unfolding tp group graphs
declared_window = refl

strange_window : graphs (tp 0 1 ∷ query.optional (group (query.window (codes "v") 7 (group []) ∷ [])) ∷ query.window (codes "u") 9 (group []) ∷ []) ≡ Some 7
unfolding tp group graphs
strange_window = refl

graph_of_triples : graphs (query.graph (slot.Variable 0) 3 (group (tp 0 1 ∷ [])) ∷ []) ≡ None
unfolding tp group graphs
graph_of_triples = refl

empty_graph : graphs (query.graph (slot.Variable 0) 3 (group []) ∷ []) ≡ Some 3
unfolding tp group graphs
empty_graph = refl

graph_with_filter : graphs (query.graph (slot.Variable 0) 3 (group (tp 0 1 ∷ query.filter (var 0) ∷ [])) ∷ []) ≡ Some 3
unfolding tp var group graphs
graph_with_filter = refl

graph_by_name : graphs (query.graph (slot.Constant (term.Iri (codes "g"))) 3 (group []) ∷ []) ≡ None
unfolding tp group graphs
graph_by_name = refl

-- ---- EXISTS

tests : List Part → Option ℕ
tests parts = first_value (map exists_fault (parts_within false (parts_in parts)))

-- a filter at its top is good, one below isn't
exists_with_filter : tests (query.exists false 5 (group (tp 0 1 ∷ query.filter (var 0) ∷ [])) ∷ []) ≡ None
unfolding tp var group tests
exists_with_filter = refl

exists_with_filter_below : tests (query.exists false 5 (group (query.union (groups_in ((tp 0 1 ∷ query.filter (var 0) ∷ []) ∷ [])) ∷ [])) ∷ []) ≡ Some 5
unfolding tp var group tests
exists_with_filter_below = refl

exists_with_bind : tests (query.exists false 5 (group (query.bind 0 (var 1) ∷ [])) ∷ []) ≡ Some 5
unfolding tp var group tests
exists_with_bind = refl

exists_in_exists : tests (query.exists false 5 (group (query.exists true 8 (group []) ∷ [])) ∷ []) ≡ Some 5
unfolding tp group tests
exists_in_exists = refl

exists_in_optional : tests (query.optional (group (tp 0 1 ∷ query.exists false 5 (group (tp 0 1 ∷ [])) ∷ [])) ∷ []) ≡ Some 5
unfolding tp group tests
exists_in_optional = refl

-- not at its top
exists_deeper_in_optional : tests (query.optional (group (query.union (groups_in ((query.exists false 5 (group (tp 0 1 ∷ [])) ∷ []) ∷ [])) ∷ [])) ∷ []) ≡ None
unfolding tp group tests
exists_deeper_in_optional = refl

-- ---- scopes: s, o, n, x and z are 0, 1, 2, 3 and 4, and () is 5

names : List (List ℕ)
names = codes "s" ∷ codes "o" ∷ codes "n" ∷ codes "x" ∷ codes "z" ∷ codes "()" ∷ []

count_rows : ℕ × Aggregation
count_rows = (5, record { kind = kind.Count; distinct = false; argument = None })

plain : List Item → List Part → Option Unscoped
plain items body = scope_fault_of names (selection false false items (parts_in body) false [] None [])

grouped : List Item → List Item → Option Formula → Option Unscoped
grouped items keys having =
    scope_fault_of names (selection false false items (parts_in (tp 0 1 ∷ [])) true keys having (count_rows ∷ []))

bind_of_visible : plain (shown 0 ∷ []) (tp 0 1 ∷ query.bind 1 (var 0) ∷ []) ≡ Some (Variable 1)
unfolding tp var shown named names plain
bind_of_visible = refl

-- only the elements before it count, of its own group
bind_before : plain (shown 0 ∷ []) (query.bind 1 (var 0) ∷ tp 0 1 ∷ []) ≡ None
unfolding tp var shown named names plain
bind_before = refl

bind_of_filtered : plain (shown 0 ∷ []) (query.filter (var 1) ∷ query.minus (group (tp 0 1 ∷ [])) ∷ query.bind 1 (var 0) ∷ []) ≡ None
unfolding tp var shown named group names plain
bind_of_filtered = refl

-- an item stands before the group
item_before_body : plain (shown 0 ∷ named (var 1) 0 ∷ []) (tp 0 1 ∷ query.bind 1 (var 0) ∷ []) ≡ Some (Variable 0)
unfolding tp var shown named names plain
item_before_body = refl

shown_twice : plain (shown 0 ∷ shown 1 ∷ shown 0 ∷ []) (tp 0 1 ∷ []) ≡ Some (Variable 0)
unfolding tp var shown named names plain
shown_twice = refl

-- SELECT (COUNT(*) AS ?n): the aggregate's place is no name outside aggregates
count_alone : grouped (named (var 5) 2 ∷ []) [] None ≡ None
unfolding tp var shown named names count_rows grouped
count_alone = refl

-- SELECT ?s (COUNT(*) AS ?n): ?s is no key; it is with GROUP BY ?s
no_key : grouped (shown 0 ∷ named (var 5) 2 ∷ []) [] None ≡ Some (Variable 0)
unfolding tp var shown named names count_rows grouped
no_key = refl

key : grouped (shown 0 ∷ named (var 5) 2 ∷ []) (shown 0 ∷ []) None ≡ None
unfolding tp var shown named names count_rows grouped
key = refl

-- SELECT (?z AS ?s) (COUNT(*) AS ?n): the expression stands before its variable
expression_first : grouped (named (var 4) 0 ∷ named (var 5) 2 ∷ []) [] None ≡ Some (Variable 4)
unfolding tp var shown named names count_rows grouped
expression_first = refl

-- SELECT (COUNT(*) AS ?n) (?n AS ?x) .. HAVING (?n): what an earlier item computes may be named
earlier_item : grouped (named (var 5) 2 ∷ named (var 2) 3 ∷ []) [] (Some (var 2)) ≡ None
unfolding tp var shown named names count_rows grouped
earlier_item = refl

having_unknown : grouped (named (var 5) 2 ∷ []) [] (Some (var 1)) ≡ Some (Variable 1)
unfolding tp var shown named names count_rows grouped
having_unknown = refl

-- GROUP BY (?s AS ?o): visible; GROUP BY ?x (?s AS ?x): an earlier key; GROUP BY (?s AS ?x) ?x: only an AS is tested
key_visible : grouped (named (var 5) 2 ∷ []) (named (var 0) 1 ∷ []) None ≡ Some (Variable 1)
unfolding tp var shown named names count_rows grouped
key_visible = refl

key_twice : grouped (named (var 5) 2 ∷ []) (shown 3 ∷ named (var 0) 3 ∷ []) None ≡ Some (Variable 3)
unfolding tp var shown named names count_rows grouped
key_twice = refl

key_again : grouped (named (var 5) 2 ∷ []) (named (var 0) 3 ∷ shown 3 ∷ []) None ≡ None
unfolding tp var shown named names count_rows grouped
key_again = refl

grouped_star : scope_fault_of names (selection false true [] (parts_in (tp 0 1 ∷ query.bind 1 (var 0) ∷ [])) true (shown 0 ∷ []) None []) ≡ Some Star
unfolding tp var shown names
grouped_star = refl

-- a sub-select shows what it projects, and no more
sub_projects : plain (shown 0 ∷ [])
    (query.sub (selection false false (shown 0 ∷ []) (parts_in (tp 0 1 ∷ [])) false [] None []) ∷ query.bind 1 (var 0) ∷ query.bind 0 (var 1) ∷ []) ≡ Some (Variable 0)
unfolding tp var shown named names plain
sub_projects = refl
