use Rattle.std.proofs.Common.{◌+ℤ◌, ap, ◌∙◌}
use Rattle.std.proofs.lemmas.Result.{on_ok_weaker}
use Rattle.rsp_multiset.specs.Weights.{weight}
use Rattle.rsp_terms.specs.Same.{fact_eq}
use Rattle.rsp_scope.proofs.pieces.log.Goals as goal

pub returns-in_err-put-clause-ends : goal.returns-in_err-put-clause-ends
returns-in_err-put-clause-ends c last high h = c.put.ensures.ends last high (c.forget.ensures.ends last h)

pub returns-in_err-turn-clause-ends : goal.returns-in_err-turn-clause-ends
returns-in_err-turn-clause-ends c last high h = c.close_up.ensures.ends last (c.put.ensures.ends last high (c.forget.ensures.ends last h))

pub returns-clause-ends : goal.returns-clause-ends
returns-clause-ends c last high h =
    c.close_up-2.ensures.ends last (c.close_up.ensures.ends last (c.put.ensures.ends last high (c.forget.ensures.ends last h)))

pub returns-clause-logged : goal.returns-clause-logged
returns-clause-logged c = on_ok_weaker c.close_up-2.result (λ alike place listed q.
    alike place listed q
    ∙ (c.in_ok-turn.ensures.alike place listed q
    ∙ (c.in_ok-put.ensures.put place (c.requires place listed) q
    ∙ ap (λ n. n +ℤ weight fact_eq c.args.change q) (c.forget.ensures.alike place listed q)))) c.close_up-2.ensures.alike
