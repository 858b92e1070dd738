use Rattle.std.proofs.Common.{◌∙◌, sym}
use Rattle.rsp_plan.proofs.RowsKept.{none-fits}
use Rattle.rsp_plan.proofs.Still.{still-over}
use Rattle.rsp_plan.proofs.over.later.Goals as goal

pub returns-then-is_empty-clause-rows : goal.returns-then-is_empty-clause-rows
returns-then-is_empty-clause-rows g c = none-fits _ _ _ _ c.new.ensures

pub returns-then-is_empty-clause-law : goal.returns-then-is_empty-clause-law
returns-then-is_empty-clause-law g c =
    still-over (g.D.Domain.shown c.args.domain.now) (g.O.Unary.value c.args.operator.now) (g.O.Unary.stands c.args.operator.now c.args.domain.now)
    (g.met.O.Keeping.stands_alike c.args.operator.now c.args.domain.now) (g.met.O.Keeping.values_alike c.args.operator.now)
    c.args.child.now _ (sym c.is_empty.ensures ∙ c.if-is_empty.true) c.new.ensures
