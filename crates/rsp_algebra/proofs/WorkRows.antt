-- Worked rows: the work of small changes.
use Rattle.std.specs.Prelude.{◌≡◌, refl, false, Some, None, [], ◌∷◌, codes}
use Rattle.rsp_terms.specs.declared.term.Term.{Term}
use Rattle.rsp_terms.specs.declared.term.Term.TheVariants.{Iri}
use Rattle.rsp_terms.specs.declared.statement.Fact.{Fact}
use Rattle.rsp_terms.specs.declared.statement.Spot.TheVariants as spot
use Rattle.rsp_expr.specs.Formulas.{Formula, variable}
use Rattle.rsp_functions.specs.declared.aggregate.Kind.TheVariants.{Count}
use Rattle.rsp_expr.specs.declared.slot.Slot.TheVariants.{Variable, Constant}
use Rattle.rsp_algebra.specs.declared.tree.Place.TheVariants as place
use Rattle.rsp_algebra.specs.declared.tree.TriplePattern.{TriplePattern}
use Rattle.rsp_algebra.specs.Nodes.{Node, pattern, left_join, union, minus, exists, not_exists, extend, values, project, group, left_deep, over, of_two}
use Rattle.rsp_algebra.specs.Work.{certain_variables, key, join_work, work}

abbrev a : Term
a = Iri (codes "a:1")

abbrev b : Term
b = Iri (codes "a:2")

abbrev p : Term
p = Iri (codes "p:v")

abbrev fact : Term → Term → Fact
fact subject object =
    record {
      spot = spot.Window 0;
      triple = record { subject = subject; predicate = p; object = object };
    }

-- the objects of ?0, and the subjects that have the object a:2
abbrev outgoing : TriplePattern
outgoing = record { subject = Variable 0; predicate = Constant p; object = Variable 1 }

abbrev incoming : TriplePattern
incoming = record { subject = Variable 0; predicate = Constant p; object = Constant b }

abbrev both : Node
both = left_deep (place.Window 0) (outgoing ∷ incoming ∷ [])

pub projection_forgets : certain_variables (over (project (1 ∷ 2 ∷ [])) both) ≡ 1 ∷ []
projection_forgets = refl

pub union_binds_what_both_bind : certain_variables (of_two union both (pattern (place.Window 0) incoming)) ≡ 0 ∷ 0 ∷ []
union_binds_what_both_bind = refl

-- the condition of nodes that match rows
abbrev condition : Formula
condition = variable 0

pub left_rows_may_stay_bare : certain_variables (of_two (left_join condition) (pattern (place.Window 0) incoming) (pattern (place.Window 0) outgoing)) ≡ 0 ∷ []
left_rows_may_stay_bare = refl

pub chosen_rows_bind_what_left_rows_bind : certain_variables (of_two minus (of_two (exists condition) (pattern (place.Window 0) outgoing) both) both) ≡ 0 ∷ 1 ∷ []
chosen_rows_bind_what_left_rows_bind = refl

pub extension_may_be_unbound : certain_variables (over (extend 1 (variable 0)) both) ≡ 0 ∷ 0 ∷ []
extension_may_be_unbound = refl

pub values_bind_what_each_row_binds : certain_variables (values ((Some a ∷ None ∷ Some b ∷ []) ∷ (Some a ∷ Some b ∷ Some a ∷ []) ∷ [])) ≡ 0 ∷ 2 ∷ []
values_bind_what_each_row_binds = refl

pub no_values_bind_nothing : certain_variables (values []) ≡ []
no_values_bind_nothing = refl

pub graph_variable_is_bound : certain_variables (pattern (place.AnyNamed 2) outgoing) ≡ 2 ∷ 0 ∷ 1 ∷ []
graph_variable_is_bound = refl

-- ?2 may be unbound, and ?1 is the aggregate's
pub keys_bind_what_the_child_binds : certain_variables (over (group (0 ∷ 1 ∷ 2 ∷ []) ((1, record { kind = Count; distinct = false; argument = None }) ∷ [])) both) ≡ 0 ∷ []
keys_bind_what_the_child_binds = refl

pub group_adds_nothing : work 2 (over (group (0 ∷ []) []) both) (fact a a ∷ []) (fact a a ∷ []) ≡ 4
group_adds_nothing = refl

pub union_adds_nothing : work 2 (of_two union both both) (fact a a ∷ []) (fact a a ∷ []) ≡ 8
union_adds_nothing = refl

-- as the join of the same rows
pub rows_without_partner_are_matched : work 2 (of_two (not_exists condition) (pattern (place.Window 0) outgoing) (pattern (place.Window 0) incoming)) (fact a a ∷ []) (fact a a ∷ fact a b ∷ []) ≡ 20
rows_without_partner_are_matched = refl

pub rows_are_matched_by_shared_variables : key (pattern (place.Window 0) outgoing) (pattern (place.Window 0) incoming) ≡ 0 ∷ []
rows_are_matched_by_shared_variables = refl

pub join_without_change_takes_four : work 2 (over (project (0 ∷ [])) both) (fact a a ∷ []) (fact a a ∷ []) ≡ 4
join_without_change_takes_four = refl

-- a row of each side comes: (a, b) on the left meets the new (a) on the right, and (a) on the right meets the old (a, a) on
-- the left; the pair of the two new rows isn't counted again
pub each_pair_counts_once : work 2 both (fact a a ∷ []) (fact a a ∷ fact a b ∷ []) ≡ 20
each_pair_counts_once = refl

-- the rows of another subject change and meet nothing
pub pairs_agree_on_the_key : work 2 both (fact a b ∷ []) (fact a b ∷ fact b a ∷ []) ≡ 8
pairs_agree_on_the_key = refl

-- a count that changes is a change, and equal rows are one row
pub equal_rows_are_one : join_work (0 ∷ []) ((Some a ∷ []) ∷ []) ((Some a ∷ []) ∷ (Some a ∷ []) ∷ []) ((Some a ∷ []) ∷ (Some a ∷ []) ∷ []) ((Some a ∷ []) ∷ (Some a ∷ []) ∷ []) ≡ 12
equal_rows_are_one = refl
