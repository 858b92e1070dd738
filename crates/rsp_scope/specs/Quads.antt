-- Definitions: the stored quads, as distinct facts of the default graph and of named graphs.
use Rattle.std.specs.Prelude.{Bool, not, Option, None, Some, if◌then◌else◌, List, [], ◌∷◌, ◌++◌, fold, filter}
use Rattle.std.specs.List.{list_any}
use Rattle.rsp_terms.specs.declared.term.Term.{Term}
use Rattle.rsp_terms.specs.declared.statement.Quad.{Quad}
use Rattle.rsp_terms.specs.declared.statement.Fact.{Fact}
use Rattle.rsp_terms.specs.declared.statement.Spot.{Spot}
use Rattle.rsp_terms.specs.declared.statement.Spot.TheVariants as spot
use Rattle.rsp_terms.specs.Same.{fact_eq}

-- the graph of this name; none is the default graph
abbrev pub spot_of : Option Term → Spot
spot_of None = spot.Default
spot_of (Some name) = spot.Named name

abbrev pub fact_of : Quad → Fact
fact_of quad = record { spot = spot_of quad.graph; triple = quad.triple }

-- a quad at the end, unless it is stored
abbrev pub store : List Fact → Quad → List Fact
store stored quad = if list_any (fact_eq (fact_of quad)) stored then stored else stored ++ fact_of quad ∷ []

-- the quads that aren't stored become stored
abbrev pub stored_with : List Fact → List Quad → List Fact
stored_with stored quads = fold store stored quads

-- whether one of the quads is the fact
abbrev pub names : List Quad → Fact → Bool
names quads fact = list_any (λ quad. fact_eq fact (fact_of quad)) quads

-- the stored facts that no quad names
abbrev pub stored_without : List Fact → List Quad → List Fact
stored_without stored quads = filter (λ fact. not (names quads fact)) stored
