use Rattle.rsp_report.proofs.NextItems.{first_from_behind, none_from_behind}
use Rattle.rsp_report.proofs.jumps.first_needed.Goals as goal

pub returns-then-is_needed-clause-first : goal.returns-then-is_needed-clause-first
returns-then-is_needed-clause-first c =
    first_from_behind _ _ _ _ c.gaps.reach _ c.in-Some.ensures.first c.gaps.invariant.2 (c.is_needed.ensures.needed.0 c.if-is_needed.true)

pub returns-clause-first : goal.returns-clause-first
returns-clause-first c = none_from_behind _ _ _ _ c.gaps.reach (rw c.in_default.is at c.first_behind.ensures.first) c.gaps.invariant.2
