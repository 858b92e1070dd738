-- Definitions: the places of windows and graphs, and of EXISTS, that are of no shape that can be translated: of each kind the
-- first in the text, if there is one.
use Rattle.std.specs.Prelude.{ℕ, Bool, true, false, ◌||◌, not, cond, List, [], ◌∷◌, ◌++◌, Option, None, Some, map}
use Rattle.std.specs.Bool.{then_some}
use Rattle.std.specs.List.{list_all, list_any}
use Rattle.std.specs.Option.{option_or}
use Rattle.std.specs.Str.{bytes_eq}
use Rattle.rsp_expr.specs.Errors.{first_value}
use Rattle.rsp_expr.specs.declared.slot.Slot.TheVariants.{Variable, Constant}
use Rattle.rsp_query.specs.declared.query.WindowClause.{WindowClause}
use Rattle.rsp_query.specs.Groups.{Part, Parts, triple, union, graph, window, filter, exists, sub, no_part, part_then}
use Rattle.rsp_query.specs.Queries.{Registered}
use Rattle.rsp_query.specs.Walks.{below, parts_within}

-- ---- windows and graphs

abbrev pub is_among : List (List ℕ) → List ℕ → Bool
is_among names name = list_any (bytes_eq name) names

-- the names of windows
abbrev pub declared : List WindowClause → List (List ℕ)
declared clauses = map (λ clause. clause.name) clauses

-- the first clause, behind those that are declared, that declares a name again
abbrev pub repeated_window : List WindowClause → List WindowClause → Option ℕ
repeated_window before [] = None
repeated_window before (clause ∷ more) =
    cond (is_among (declared before) clause.name) (Some clause.at) (repeated_window (before ++ (clause ∷ [])) more)

abbrev pub is_triple : Part → Bool
is_triple (triple subject verb object) = true
is_triple _ = false

-- a group of triples, and of at least one
abbrev pub has_just_triples : Parts → Bool
has_just_triples no_part = false
has_just_triples body = list_all (λ p. is_triple p.1) (parts_within false body)

-- WINDOW of a name that isn't declared, or GRAPH of a variable whose group hasn't just triples
abbrev pub graph_fault : List (List ℕ) → Part → Option ℕ
graph_fault windows (window name at body) = then_some (not (is_among windows name)) at
graph_fault windows (graph (Variable v) at body) = then_some (not (has_just_triples body)) at
graph_fault windows _ = None

-- the window clauses stand before the group
abbrev pub graph_shape : Registered → Option ℕ
graph_shape q =
    option_or (repeated_window [] q.windows)
    (first_value (map (λ p. graph_fault (declared q.windows) p.1) (below (sub q.selection))))

-- ---- EXISTS

-- in the group of an EXISTS: triples, WINDOW, GRAPH with an IRI, groups and UNION, and at its top filters
abbrev pub may_be_tested : Bool × Part → Bool
may_be_tested (top, triple subject verb object) = true
may_be_tested (top, union groups) = true
may_be_tested (top, graph (Constant name) at body) = true
may_be_tested (top, window name at body) = true
may_be_tested (top, filter condition) = top
may_be_tested _ = false

abbrev pub can_be_tested : Parts → Bool
can_be_tested body = list_all may_be_tested (parts_within true body)

-- an EXISTS at the top of an OPTIONAL's group, or whose group can't be tested
abbrev pub exists_fault : Bool × Part → Option ℕ
exists_fault (top, exists negated at body) = then_some (top || not (can_be_tested body)) at
exists_fault _ = None

abbrev pub exists_shape : Registered → Option ℕ
exists_shape q = first_value (map exists_fault (below (sub q.selection)))
