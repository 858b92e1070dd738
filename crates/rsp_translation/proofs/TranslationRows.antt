-- Worked rows: trees of groups, paths and SELECTs.
use Rattle.std.proofs.Common.{◌≡◌, ℕ, Bool, true, false, List, [], ◌∷◌, refl, Option, Some, None, codes}
use Rattle.rsp_terms.specs.declared.term.Term.{Term}
use Rattle.rsp_terms.specs.declared.term.Term.TheVariants as term
use Rattle.rsp_expr.specs.declared.slot.Slot.{Slot}
use Rattle.rsp_expr.specs.declared.slot.Slot.TheVariants as slot
use Rattle.rsp_functions.specs.declared.aggregate.Kind.TheVariants as kind
use Rattle.rsp_expr.specs.Formulas as formula
use Rattle.rsp_expr.specs.Formulas.{Formula, Aggregation, formulas_in}
use Rattle.rsp_query.specs.Paths.{Way, step, inverse, sequence, choice, ways_in}
use Rattle.rsp_query.specs.Groups as query
use Rattle.rsp_query.specs.Groups.{Item, Part, Parts, parts_in, groups_in, selection}
use Rattle.rsp_algebra.specs.declared.tree.Place.{Place}
use Rattle.rsp_algebra.specs.declared.tree.Place.TheVariants as place
use Rattle.rsp_algebra.specs.Nodes as node
use Rattle.rsp_algebra.specs.Nodes.{Node}
use Rattle.rsp_translation.specs.Paths.{path_node, triple_node}
use Rattle.rsp_translation.specs.Trees.{Setting, clauses as clauses_in, group, select_node}
use Rattle.rsp_translation.specs.Selects.{projected}

iri : List ℕ → Slot
iri x = slot.Constant (term.Iri x)

-- a triple pattern, as an element and as a node at a place
tp : ℕ → List ℕ → ℕ → Part
tp s x o = query.triple (slot.Variable s) (step (iri x)) (slot.Variable o)

at : Place → ℕ → List ℕ → ℕ → Node
at where_ s x o = triple_node where_ (slot.Variable s) (iri x) (slot.Variable o)

all : List Formula → Formula
all conditions = formula.conjunction (formulas_in conditions)

var : ℕ → Formula
var v = formula.variable v

-- names s, o, n and a label x; one window
here : Setting
here = record {
  names = codes "s" ∷ codes "o" ∷ codes "n" ∷ codes "_:x" ∷ [];
  windows = codes "w:1" ∷ codes "w:2" ∷ [];
  width = 6;
}

-- the tree of a group in the default graph; the first `/` has the variable 4
tree : List Part → Node
tree parts = group (clauses_in here place.Default 4 (parts_in parts))

d : ℕ → List ℕ → ℕ → Node
d = at place.Default

p : List ℕ
p = codes "p"

q : List ℕ
q = codes "q"

-- { ?s p ?o OPTIONAL { ?s q ?n FILTER(?n) } }: the filter is the node's condition and not in its tree
optional_filter : tree (tp 0 p 1 ∷ query.optional (parts_in (tp 0 q 2 ∷ query.filter (var 2) ∷ [])) ∷ [])
    ≡ node.of_two (node.left_join (all (var 2 ∷ []))) (d 0 p 1) (d 0 q 2)
unfolding iri tp at all var here tree d p q
optional_filter = refl

-- without one it is true
optional_alone : tree (query.optional (parts_in (tp 0 q 2 ∷ [])) ∷ []) ≡ node.of_two (node.left_join (all [])) node.unit (d 0 q 2)
unfolding iri tp at all var here tree d p q
optional_alone = refl

-- { BIND(?o AS ?n) ?s p ?o FILTER(?o) ?o q ?s }: a FILTER ends no run
run_over_filter : tree (query.bind 2 (var 1) ∷ tp 0 p 1 ∷ query.filter (var 1) ∷ tp 1 q 0 ∷ [])
    ≡ node.over (node.filter (all (var 1 ∷ []))) (node.of_two node.join (node.over (node.extend 2 (var 1)) node.unit) (node.of_two node.join (d 0 p 1) (d 1 q 0)))
unfolding iri tp at all var here tree d p q
run_over_filter = refl

-- { ?s p ?o BIND(?o AS ?n) ?o q ?s }: each other element ends it
run_to_bind : tree (tp 0 p 1 ∷ query.bind 2 (var 1) ∷ tp 1 q 0 ∷ [])
    ≡ node.of_two node.join (node.over (node.extend 2 (var 1)) (d 0 p 1)) (d 1 q 0)
unfolding iri tp at all var here tree d p q
run_to_bind = refl

-- { { } ?s p ?o { } }: the unit vanishes on the left of a join, and only there
unit_on_the_left : tree (query.union (groups_in ([] ∷ [])) ∷ tp 0 p 1 ∷ query.union (groups_in ([] ∷ [])) ∷ [])
    ≡ node.of_two node.join (d 0 p 1) node.unit
unfolding iri tp at all var here tree d p q
unit_on_the_left = refl

-- { { ?s p ?o } UNION { } UNION { ?s q ?o } MINUS { } }
unions : tree (query.union (groups_in ((tp 0 p 1 ∷ []) ∷ [] ∷ (tp 0 q 1 ∷ []) ∷ [])) ∷ query.minus (parts_in []) ∷ [])
    ≡ node.of_two node.minus (node.of_two node.union (node.of_two node.union (d 0 p 1) node.unit) (d 0 q 1)) node.unit
unfolding iri tp at all var here tree d p q
unions = refl

-- { FILTER NOT EXISTS { ?s q ?n FILTER(?o) } ?s p ?o FILTER(?s) }: tested last, behind the filters
exists_last : tree (query.exists true 0 (parts_in (tp 0 q 2 ∷ query.filter (var 1) ∷ [])) ∷ tp 0 p 1 ∷ query.filter (var 0) ∷ [])
    ≡ node.of_two (node.not_exists (all (var 1 ∷ []))) (node.over (node.filter (all (var 0 ∷ []))) (d 0 p 1)) (d 0 q 2)
unfolding iri tp at all var here tree d p q
exists_last = refl

-- ?s p/^q/p ?o, from the left
slash : path_node place.Default 4 (slot.Variable 0) (sequence (ways_in (step (iri p) ∷ inverse (step (iri q)) ∷ step (iri p) ∷ []))) (slot.Variable 1)
    ≡ node.of_two node.join (node.of_two node.join (d 0 p 4) (d 5 q 4)) (d 5 p 1)
unfolding iri at d p q
slash = refl

-- ?s (p/q)|^(q/p) ?o
choices : path_node place.Default 4 (slot.Variable 0)
    (choice (ways_in (sequence (ways_in (step (iri p) ∷ step (iri q) ∷ [])) ∷ inverse (sequence (ways_in (step (iri q) ∷ step (iri p) ∷ []))) ∷ []))) (slot.Variable 1)
    ≡ node.of_two node.union (node.of_two node.join (d 0 p 4) (d 4 q 1)) (node.of_two node.join (d 1 q 5) (d 5 p 0))
unfolding iri at d p q
choices = refl

path : Way
path = sequence (ways_in (step (iri p) ∷ step (iri q) ∷ []))

-- { ?s p/q ?o , ?n }: the path is translated anew
path_anew : tree (query.triple (slot.Variable 0) path (slot.Variable 1) ∷ query.triple (slot.Variable 0) path (slot.Variable 2) ∷ [])
    ≡ node.of_two node.join (node.of_two node.join (d 0 p 4) (d 4 q 1)) (node.of_two node.join (d 0 p 5) (d 5 q 2))
unfolding iri tp at all var here tree d p q path
path_anew = refl

-- { FILTER EXISTS { ?s p/q ?o } ?s p/q ?n }: by the order of the text, though EXISTS is tested last
path_in_exists : tree (query.exists false 0 (parts_in (query.triple (slot.Variable 0) path (slot.Variable 1) ∷ [])) ∷ query.triple (slot.Variable 0) path (slot.Variable 2) ∷ [])
    ≡ node.of_two (node.exists (all [])) (node.of_two node.join (d 0 p 5) (d 5 q 2)) (node.of_two node.join (d 0 p 4) (d 4 q 1))
unfolding iri tp at all var here tree d p q path
path_in_exists = refl

inner : query.Selection
inner =
    selection false false (record { variable = 0; formula = None } ∷ []) (parts_in (tp 0 p 1 ∷ [])) false [] None []

-- { WINDOW <w:2> { { SELECT ?s { ?s p ?o } } FILTER EXISTS { ?s q ?n } GRAPH ?n { ?s p ?o } } ?s p ?o }
places : tree (query.window (codes "w:2") 0 (parts_in (
    query.sub inner ∷ query.exists false 0 (parts_in (tp 0 q 2 ∷ [])) ∷ query.graph (slot.Variable 2) 0 (parts_in (tp 0 p 1 ∷ [])) ∷ []
    )) ∷ tp 0 p 1 ∷ [])
    ≡ node.of_two node.join (node.of_two (node.exists (all [])) (node.of_two node.join (node.over (node.project (0 ∷ [])) (at (place.Window 1) 0 p 1)) (at (place.AnyNamed 2) 0 p 1)) (at (place.Window 1) 0 q 2)) (d 0 p 1)
unfolding iri tp at all var here tree d p q inner
places = refl

-- { VALUES (?o ?s) { (UNDEF <p>) } }: a cell for each variable
rows : tree (query.values (1 ∷ 0 ∷ []) ((None ∷ Some (term.Iri p) ∷ []) ∷ []) ∷ [])
    ≡ node.values ((Some (term.Iri p) ∷ None ∷ None ∷ None ∷ None ∷ None ∷ []) ∷ [])
unfolding iri tp at all var here tree d p q
rows = refl

count_rows : Aggregation
count_rows = record { kind = kind.Count; distinct = false; argument = None }

-- SELECT DISTINCT ?s (() AS ?n) { ?s p ?o } GROUP BY ?s (?o AS ?n) HAVING(?n): HAVING lies below each AS of the SELECT
clauses : select_node here place.Default 4
    (selection true false
    (record { variable = 0; formula = None } ∷ record { variable = 2; formula = Some (var 3) } ∷ [])
    (parts_in (tp 0 p 1 ∷ [])) true
    (record { variable = 0; formula = None } ∷ record { variable = 5; formula = Some (var 1) } ∷ [])
    (Some (var 2)) ((3, count_rows) ∷ []))
    ≡ node.over node.distinct (node.over (node.project (0 ∷ 2 ∷ [])) (node.over (node.extend 2 (var 3)) (node.over (node.filter (var 2)) (node.over (node.group (0 ∷ 5 ∷ []) ((3, count_rows) ∷ [])) (node.over (node.extend 5 (var 1)) (d 0 p 1))))))
unfolding iri tp at all var here tree d p q count_rows
clauses = refl

-- SELECT * { FILTER(?s) ?n p ?o . ?o q _:x MINUS { ?s p ?o } }: by the order of the text, without what has no name or isn't visible
star : projected (codes "s" ∷ codes "n" ∷ codes "o" ∷ codes "_:x" ∷ [])
    (selection false true [] (parts_in (query.filter (var 0) ∷ tp 1 p 2 ∷ tp 2 q 3 ∷ query.minus (parts_in (tp 0 p 2 ∷ [])) ∷ [])) false [] None [])
    ≡ 1 ∷ 2 ∷ []
unfolding iri tp var p q
star = refl

-- SELECT * { FILTER(?b) ?a p ?b } shows ?b before ?a
star_by_mention : projected (codes "b" ∷ codes "a" ∷ [])
    (selection false true [] (parts_in (query.filter (var 0) ∷ tp 1 p 0 ∷ [])) false [] None [])
    ≡ 0 ∷ 1 ∷ []
unfolding iri tp var p q
star_by_mention = refl
