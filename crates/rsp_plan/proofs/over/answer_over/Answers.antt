use Rattle.rsp_plan.proofs.Carrying.{both_ok}
use Rattle.rsp_plan.proofs.Operating.{over-may, over-law}
use Rattle.rsp_plan.proofs.over.answer_over.Goals as goal

pub applied-requires : goal.applied-requires
applied-requires g c =
    over-may g.met.D.Value.Cell.identical (g.D.Domain.knows c.args.domain.now) (g.D.Domain.shown c.args.domain.now) (g.O.Unary.width c.args.operator.now) (g.O.Unary.key c.args.operator.now)
    (g.O.Unary.value c.args.operator.now) (g.O.Unary.stands c.args.operator.now c.args.domain.now) c.args.pending.now c.in-Some.child c.pop.new.self c.in-Some.ensures.some c.requires

pub returns-clause-law : goal.returns-clause-law
returns-clause-law g c =
    both_ok c.applied.result c.applied.ensures.rows c.applied.ensures.law
    (λ net fit led.
    over-law g.met.D.Value.Cell.identical (g.D.Domain.knows c.args.domain.now) (g.D.Domain.shown c.args.domain.now) (g.O.Unary.width c.args.operator.now) (g.O.Unary.key c.args.operator.now)
    (g.O.Unary.value c.args.operator.now) (g.O.Unary.stands c.args.operator.now c.args.domain.now)
    (g.D.Domain.knows c.applied.new.domain) (g.D.Domain.shown c.applied.new.domain) c.applied.ensures.known (g.O.Unary.width c.applied.new.operator) (g.O.Unary.key c.applied.new.operator)
    (g.O.Unary.value c.applied.new.operator) (g.O.Unary.stands c.applied.new.operator c.applied.new.domain) c.applied.ensures.width c.applied.ensures.key c.applied.ensures.value
    c.args.starts c.in-Some.child net fit led c.args.pending.now c.pop.new.self c.in-Some.ensures.some)
