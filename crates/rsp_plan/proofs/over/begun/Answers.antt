use Rattle.rsp_plan.proofs.Begun.{given-learnt, begun-fits, begun-law}
use Rattle.rsp_plan.proofs.Carrying.{ok_led}
use Rattle.rsp_plan.proofs.over.begun.Goals as goal

pub apply-requires : goal.apply-requires
apply-requires g c =
    given-learnt g.met.D.Value.Cell.identical (g.D.Domain.knows c.args.domain.now) (g.D.Domain.knows c.over_nothing.new.domain) (g.D.Domain.shown c.args.domain.now) (g.D.Domain.shown c.over_nothing.new.domain)
    c.over_nothing.ensures.known (g.O.Unary.width c.args.operator.now) (g.O.Unary.key c.args.operator.now)
    (g.O.Unary.stands c.args.operator.now c.args.domain.now) (g.O.Unary.stands c.args.operator.now c.over_nothing.new.domain) c.args.child.now c.distinct-child.ensures.changes
    (λ rows. g.met.O.Keeping.moved c.args.operator.now c.args.domain.now c.over_nothing.new.domain rows c.over_nothing.ensures.known) c.requires

pub returns-clause-rows : goal.returns-clause-rows
returns-clause-rows g c =
    ok_led c.sum.result c.sum.ensures.sums
    (λ sum sums.
    begun-fits g.met.D.Value.Cell.identical (g.D.Domain.knows c.args.domain.now) (g.D.Domain.knows c.over_nothing.new.domain) (g.D.Domain.knows c.apply.new.domain)
    (g.D.Domain.shown c.args.domain.now) (g.D.Domain.shown c.over_nothing.new.domain) (g.D.Domain.shown c.apply.new.domain) c.over_nothing.ensures.known c.apply.ensures.known
    (g.O.Unary.width c.args.operator.now) (g.O.Unary.key c.args.operator.now) (g.O.Unary.value c.args.operator.now) c.in_ok-first.first c.in_ok-net.net sum c.sum.ensures.others
    c.in_ok-first.ensures.rows sums c.in_ok-net.ensures.rows)

pub returns-clause-law : goal.returns-clause-law
returns-clause-law g c =
    ok_led c.sum.result c.sum.ensures.sums
    (λ sum sums.
    begun-law g.met.D.Value.Cell.identical (g.D.Domain.knows c.args.domain.now) (g.D.Domain.knows c.over_nothing.new.domain) (g.D.Domain.knows c.apply.new.domain)
    (g.D.Domain.shown c.args.domain.now) (g.D.Domain.shown c.over_nothing.new.domain) (g.D.Domain.shown c.apply.new.domain) c.over_nothing.ensures.known c.apply.ensures.known
    (g.O.Unary.width c.args.operator.now) (g.O.Unary.key c.args.operator.now) (g.O.Unary.value c.args.operator.now) c.in_ok-first.first c.in_ok-net.net sum c.sum.ensures.others
    c.in_ok-first.ensures.rows sums
    (g.O.Unary.stands c.args.operator.now c.args.domain.now) (g.O.Unary.stands c.args.operator.now c.over_nothing.new.domain) (g.O.Unary.stands c.apply.new.self c.apply.new.domain)
    c.args.child.now c.distinct-child.ensures.changes c.requires.fit
    (λ rows. g.met.O.Keeping.moved c.args.operator.now c.args.domain.now c.over_nothing.new.domain rows c.over_nothing.ensures.known)
    c.in_ok-first.ensures.leads c.in_ok-net.ensures.law)
