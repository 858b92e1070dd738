use Rattle.std.proofs.Common.{◌∙◌, sym}
use Rattle.rsp_plan.proofs.RowsKept.{none-fits}
use Rattle.rsp_plan.proofs.Still.{still-pair}
use Rattle.rsp_plan.proofs.pair.changed.Goals as goal

pub returns-then-are_empty-clause-rows : goal.returns-then-are_empty-clause-rows
returns-then-are_empty-clause-rows g c = none-fits _ _ _ _ c.new.ensures

pub returns-then-are_empty-clause-law : goal.returns-then-are_empty-clause-law
returns-then-are_empty-clause-law g c =
    still-pair (g.D.Domain.shown c.args.domain.now) (g.B.Binary.value c.args.operator.now) (g.B.Binary.stands c.args.operator.now c.args.domain.now)
    (g.met.B.KeepingBoth.stands_alike c.args.operator.now c.args.domain.now) (g.met.B.KeepingBoth.values_alike c.args.operator.now)
    c.args.left.now c.args.right.now _ (sym c.are_empty.ensures ∙ c.if-are_empty.true) c.new.ensures
