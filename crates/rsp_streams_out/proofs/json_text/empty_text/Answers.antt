use Rattle.std.proofs.Common.{ap, ◌∙◌}
use Rattle.std.proofs.lemmas.Result.{IfOk-weaker}
use Rattle.serde_json.specs.Written.{compact_text, has_float}
use Rattle.rsp_streams_out.proofs.JsonData.{empty_no_float}
use Rattle.rsp_streams_out.proofs.json_text.empty_text.Goals as goal

pub returns : goal.returns
returns c =
    let is = c.in_ok-empty_report.ensures in
    IfOk-weaker c.to_string.result _ _
    (λ text written. written (ap has_float is ∙ empty_no_float c.args.name.now c.args.at c.args.variables.now) ∙ ap compact_text is) c.to_string.ensures.text
