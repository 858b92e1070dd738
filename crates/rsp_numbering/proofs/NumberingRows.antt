-- Worked rows: the numbers of a query's variables, and what is counted.
use Rattle.std.proofs.Common.{◌≡◌, ℕ, true, false, List, [], ◌∷◌, refl, Some, None, codes, map}
use Rattle.rsp_terms.specs.declared.term.Term.TheVariants as term
use Rattle.rsp_expr.specs.declared.slot.Slot.TheVariants as slot
use Rattle.rsp_functions.specs.declared.aggregate.Kind.TheVariants as fold
use Rattle.rsp_expr.specs.Formulas as formula
use Rattle.rsp_query.specs.Paths as path
use Rattle.rsp_query.specs.Groups as query
use Rattle.rsp_query.specs.Groups.{parts_in}
use Rattle.rsp_written.specs.Trees.{Node, Properties, Selected, variable_node, described, along, step, node_then, no_node, property_then, no_property, shown, computed, count_rows, these, every_name, triples, union_of, group_then, no_group, element_then, no_element, sub_select, selected, variable, any_of, expr_then, no_expr}
use Rattle.rsp_numbering.specs.Naming.{variable_text}
use Rattle.rsp_numbering.specs.Numbered.{start}
use Rattle.rsp_numbering.specs.Selections.{select}
use Rattle.rsp_query.specs.Paths.{slashes}
use Rattle.rsp_numbering.specs.Limits.{steps}
use Rattle.rsp_numbering.specs.Expressions.{expression}

to : List ℕ → Node → Properties
to x object = property_then (along (step x)) (node_then object no_node) no_property

var : List ℕ → Node
var x = variable_node x

-- SELECT ?o ?x { ?o <a:r> ?x . ?y <a:r> ?x }
inner : Selected
inner =
    selected false (these (shown (codes "o") ∷ shown (codes "x") ∷ []))
    (element_then (triples (var (codes "o")) (to (codes "a:r") (var (codes "x"))))
    (element_then (triples (var (codes "y")) (to (codes "a:r") (var (codes "x")))) no_element))
    [] None

-- SELECT ?s (COUNT(*) AS ?n) { ?s <a:p> [ <a:q> ?o ] . { the one above } } GROUP BY ?s
outer : Selected
outer =
    selected false (these (shown (codes "s") ∷ computed count_rows (codes "n") ∷ []))
    (element_then (triples (var (codes "s")) (to (codes "a:p") (described (to (codes "a:q") (var (codes "o"))))))
    (element_then (union_of (group_then (element_then (sub_select inner) no_element) no_group)) no_element))
    (shown (codes "s") ∷ []) None

-- ?o and ?x are shared with the SELECT round it, ?y isn't
variables : map variable_text (select [] outer start).1.before.variables
    ≡ codes "s" ∷ codes "()" ∷ codes "n" ∷ codes "[]" ∷ codes "o" ∷ codes "x" ∷ codes "y" ∷ []
unfolding to var inner outer
variables = refl

triple : ℕ → List ℕ → ℕ → query.Part
triple s x o = query.triple (slot.Variable s) (path.step (slot.Constant (term.Iri x))) (slot.Variable o)

numbered : (select [] outer start).0
    ≡ query.selection false false
    (record { variable = 0; formula = None } ∷ record { variable = 2; formula = Some (formula.variable 1) } ∷ [])
    (parts_in
    (
    triple 0 (codes "a:p") 3
    ∷ triple 3 (codes "a:q") 4
    ∷ query.union
    (query.group_then
    (parts_in
    (query.sub
    (query.selection false false
    (record { variable = 4; formula = None } ∷ record { variable = 5; formula = None } ∷ [])
    (parts_in (triple 4 (codes "a:r") 5 ∷ triple 6 (codes "a:r") 5 ∷ [])) false [] None [])
    ∷ []))
    query.no_group)
    ∷ []
    ))
    true (record { variable = 0; formula = None } ∷ []) None
    ((1, record { kind = fold.Count; distinct = false; argument = None }) ∷ [])
unfolding to var inner outer triple
numbered = refl

-- a name twice in two SELECTs of which neither projects it is two variables, and under `*` it is one
own : map variable_text (select []
    (selected false (these (shown (codes "s") ∷ []))
    (element_then (triples (var (codes "s")) (to (codes "a:p") (var (codes "y"))))
    (element_then (sub_select inner) no_element)) [] None) start).1.before.variables
    ≡ codes "s" ∷ codes "y" ∷ codes "o" ∷ codes "x" ∷ codes "y" ∷ []
unfolding to var inner
own = refl

all : map variable_text (select []
    (selected false (these (shown (codes "s") ∷ []))
    (element_then (triples (var (codes "s")) (to (codes "a:p") (var (codes "y"))))
    (element_then (sub_select
    (selected false every_name (element_then (triples (var (codes "y")) (to (codes "a:r") (var (codes "x")))) no_element) [] None)) no_element))
    [] None) start).1.before.variables
    ≡ codes "s" ∷ codes "y" ∷ codes "x" ∷ []
unfolding to var
all = refl

-- `?a || ?b || ?c` has two signs
signs : (expression [] (any_of (expr_then (variable (codes "a")) (expr_then (variable (codes "b")) (expr_then (variable (codes "c")) no_expr)))) start).1.operators ≡ 2
signs = refl

-- <a:p>/<a:q>/<a:r> is three patterns, with two variables between
path_of_three : path.Way
path_of_three =
    path.sequence (path.way_then (path.step (slot.Constant (term.Iri (codes "a:p"))))
    (path.way_then (path.step (slot.Constant (term.Iri (codes "a:q"))))
    (path.way_then (path.step (slot.Constant (term.Iri (codes "a:r")))) path.no_way)))

three : (steps path_of_three ≡ 3) × (slashes path_of_three ≡ 2)
unfolding path_of_three
three = (refl, refl)
