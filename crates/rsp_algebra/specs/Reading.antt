-- Words of the way: which facts a tree reads: those that are in the graph of one of its patterns and have its constants.
use Rattle.std.specs.Prelude.{◌≡◌, Bool, true, false, ◌&&◌, ◌||◌, nat_eq}
use Rattle.rsp_terms.specs.declared.term.Term.{Term}
use Rattle.rsp_terms.specs.declared.statement.Fact.{Fact}
use Rattle.rsp_terms.specs.declared.statement.Spot.{Spot}
use Rattle.rsp_terms.specs.declared.statement.Spot.TheVariants as spot
use Rattle.rsp_terms.specs.Same.{term_eq}
use Rattle.rsp_expr.specs.declared.slot.Slot.{Slot}
use Rattle.rsp_expr.specs.declared.slot.Slot.TheVariants.{Variable, Constant}
use Rattle.rsp_algebra.specs.declared.tree.Place.{Place}
use Rattle.rsp_algebra.specs.declared.tree.Place.TheVariants as place
use Rattle.rsp_algebra.specs.declared.tree.TriplePattern.{TriplePattern}
use Rattle.rsp_algebra.specs.Nodes as node
use Rattle.rsp_algebra.specs.Nodes.{Node}

-- the slot can stand for the term
abbrev pub stands_for : Slot → Term → Bool
stands_for (Variable _) t = true
stands_for (Constant c) t = term_eq c t

-- the place has the fact's graph
abbrev pub has_graph : Place → Spot → Bool
has_graph place.Default spot.Default = true
has_graph (place.Named name) (spot.Named other) = term_eq name other
has_graph (place.AnyNamed _) (spot.Named _) = true
has_graph (place.Window k) (spot.Window index) = nat_eq k index
has_graph _ _ = false

abbrev pub pattern_reads : Place → TriplePattern → Fact → Bool
pattern_reads place triple fact =
    has_graph place fact.spot
    && (stands_for triple.subject fact.triple.subject
    && (stands_for triple.predicate fact.triple.predicate && stands_for triple.object fact.triple.object))

-- some pattern of the tree reads the fact
abbrev pub reads : Node → Fact → Bool
reads (node.pattern place triple) fact = pattern_reads place triple fact
reads (node.over _ child) fact = reads child fact
reads (node.of_two _ left right) fact = reads left fact || reads right fact
reads leaf fact = false

-- the test holds of each fact that the tree reads
abbrev pub Passes : Node → (Fact → Bool) → Type 0
Passes tree test = (fact : Fact) → reads tree fact ≡ true → test fact ≡ true
