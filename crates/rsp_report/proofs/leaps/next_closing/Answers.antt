use Rattle.rsp_report.proofs.Agreement.{none_before_next, none_below_period}
use Rattle.rsp_report.proofs.leaps.next_closing.Goals as goal

pub returns-then-next-to : goal.returns-then-next-to
returns-then-next-to c =
    none_before_next _ _ _ _ _ c.next_close-next.ensures.shape.slide_low c.next_close-next.ensures.next c.if-next-to.true

pub returns-then-period-to : goal.returns-then-period-to
returns-then-period-to c =
    none_below_period _ _ _ _ c.next_close-next.ensures.shape.slide_low c.next_close-next.ensures.shape.width_low c.if-period-to.true
