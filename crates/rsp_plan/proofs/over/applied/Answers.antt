use Rattle.rsp_plan.proofs.Begun.{applied-first, applied-later}
use Rattle.rsp_plan.proofs.Carrying.{ok_led}
use Rattle.rsp_plan.proofs.over.applied.Goals as goal

pub returns-then-starts-clause-law : goal.returns-then-starts-clause-law
returns-then-starts-clause-law g c =
    ok_led c.begun.result c.begun.ensures.law
    (λ net led.
    applied-first (g.D.Domain.shown c.args.domain.now) (g.D.Domain.shown c.begun.new.domain) (g.O.Unary.value c.args.operator.now) (g.O.Unary.stands c.args.operator.now c.args.domain.now)
    (g.O.Unary.stands c.begun.new.operator c.begun.new.domain) c.args.child.now net c.args.starts c.if-starts.true led)

pub returns-else-starts-clause-law : goal.returns-else-starts-clause-law
returns-else-starts-clause-law g c =
    ok_led c.later.result c.later.ensures.law
    (λ net led.
    applied-later (g.D.Domain.shown c.args.domain.now) (g.D.Domain.shown c.later.new.domain) (g.O.Unary.value c.args.operator.now) (g.O.Unary.stands c.args.operator.now c.args.domain.now)
    (g.O.Unary.stands c.later.new.operator c.later.new.domain) c.args.child.now net c.args.starts c.if-starts.false led)
