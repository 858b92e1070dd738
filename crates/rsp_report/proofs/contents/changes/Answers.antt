use Rattle.std.proofs.Common.{arith, ◌≤◌, true≢false, sym, ◌∙◌}
use Rattle.std.proofs.lemmas.Bool.Decides.{nat_tests}
use Rattle.rsp_report.proofs.Membership.{changes_by_entering, changes_by_leaving, none_changes_at_first}
use Rattle.rsp_report.proofs.contents.changes.Goals as goal

pub returns-then-t-eq0 : goal.returns-then-t-eq0
returns-then-t-eq0 c = none_changes_at_first _ _ _ c.if-t-eq0.true

pub returns-then-enters : goal.returns-then-enters
returns-then-enters c =
    let later : 1 ≤ c.args.t = grind (arith, nat_tests, c.if-t-eq0.false) in
    changes_by_entering _ _ _ c.leaves-left.ensures.shape.slide_low later (c.enters.ensures.0 c.if-enters.true)

pub returns-else-enters : goal.returns-else-enters
returns-else-enters c =
    let later : 1 ≤ c.args.t = grind (arith, nat_tests, c.if-t-eq0.false) in
    changes_by_leaving _ _ _ _ c.leaves-left.ensures.shape.slide_low later (λ enters. true≢false (sym (c.enters.ensures.1 enters) ∙ c.if-enters.false)) c.leaves-left.ensures.leaves
