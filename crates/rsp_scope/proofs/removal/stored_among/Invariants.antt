use Rattle.std.proofs.Common.{◌≡◌, ◌&&◌, ◌||◌, drop}
use Rattle.std.specs.List.{list_any}
use Rattle.rsp_terms.specs.declared.statement.Fact.{Fact}
use Rattle.rsp_terms.specs.Same.{fact_eq}
use Rattle.rsp_scope.specs.Quads.{names}
use Rattle.rsp_scope.proofs.removal.stored_among.Given as goal

abbrev pub invariant-loop-quad : goal.invariant-loop-quad
invariant-loop-quad l =
    (q : Fact)
    → (list_any (fact_eq q) l.found.keys || (list_any (fact_eq q) l.facts.keys && names (drop l.quad-index l.quads) q))
    ≡ (list_any (fact_eq q) l.facts.keys && names l.quads q)
