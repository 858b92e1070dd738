use Rattle.std.proofs.Common.{◌∙◌, sym}
use Rattle.std.proofs.lemmas.Result.{IfOk-weaker}
use Rattle.rsp_events.proofs.Times.{said_timed}
use Rattle.rsp_events.proofs.contents.content_of_lines.Goals as goal

pub returns-in-Some-2-clause-timed : goal.returns-in-Some-2-clause-timed
returns-in-Some-2-clause-timed c =
    let said = sym c.in_ok-directive_of.ensures ∙ c.in-Some-2.is in
    IfOk-weaker _ _ _ (said_timed c.args.document c.args.first c.in-Some.head.now c.in-Some-2.directive c.in-Some.body c.args.ended said) c.content_of_directive.ensures
