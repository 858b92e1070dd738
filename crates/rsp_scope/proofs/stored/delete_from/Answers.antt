use Rattle.std.proofs.Common.{◌&&◌, ◌+ℤ◌, not, ap, sym, ◌∙◌}
use Rattle.std.specs.List.{list_any}
use Rattle.rsp_multiset.specs.Weights.{times, weight}
use Rattle.rsp_terms.specs.Same.{fact_eq, fact_same}
use Rattle.rsp_scope.specs.Quads.{names}
use Rattle.rsp_scope.proofs.Takings.{left-changed, left-times}
use Rattle.rsp_scope.proofs.stored.delete_from.Goals as goal

pub returns-clause-stored : goal.returns-clause-stored
returns-clause-stored c =
    left-times {eq = fact_eq} fact_same c.args.facts.now.keys c.take_out.new.values.keys c.in_ok-gone.gone.keys
    (names c.args.quads.now)
    c.take_out.ensures.once
    c.take_out.ensures.still_once
    c.in_ok-gone.ensures
    (λ q. c.take_out.ensures.left q ∙ ap (λ l. list_any (fact_eq q) c.args.facts.now.keys && not (list_any (fact_eq q) l)) c.as_slice-2.ensures.keys)

pub returns-clause-change : goal.returns-clause-change
returns-clause-change c q =
    left-changed {eq = fact_eq} fact_same c.args.facts.now.keys c.take_out.new.values.keys c.in_ok-gone.gone.keys
    c.in_ok-change.change
    (names c.args.quads.now)
    c.take_out.ensures.once
    c.take_out.ensures.still_once
    c.as_slice.ensures.unique
    c.in_ok-gone.ensures
    (λ p. c.take_out.ensures.left p ∙ ap (λ l. list_any (fact_eq p) c.args.facts.now.keys && not (list_any (fact_eq p) l)) c.as_slice-2.ensures.keys)
    (λ p. c.in_ok-change.ensures p ∙ ap (λ l. times fact_eq l p) c.as_slice.ensures.keys)
    q
    ∙ ap (λ l. times fact_eq c.args.facts.now.keys q +ℤ weight fact_eq l q) (sym c.negate.ensures)
