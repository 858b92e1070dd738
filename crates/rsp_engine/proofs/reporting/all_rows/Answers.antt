use Rattle.std.proofs.Common.{◌∙◌}
use Rattle.std.proofs.lemmas.Result.{IfOk-weaker}
use Rattle.rsp_algebra.specs.Solutions.{eval}
use Rattle.rsp_algebra.proofs.SameFacts.{same_solutions}
use Rattle.rsp_engine.proofs.reporting.all_rows.Goals as goal

pub returns : goal.returns
returns g c =
    let answer = c.args.live.now.answer in
    IfOk-weaker c.shown_rows.result _ _
    (λ rows shown facts same.
    let those = shown (eval (g.A.Answer.width answer) (g.A.Answer.node answer) facts)
    (λ q. c.in_ok-solutions.ensures q ∙ same_solutions (g.A.Answer.width answer) (g.A.Answer.node answer) (g.A.Answer.facts answer) facts same q) in
    let slice = rw c.as_slice.ensures at those in
    rw c.deref.ensures at slice)
    c.shown_rows.ensures
