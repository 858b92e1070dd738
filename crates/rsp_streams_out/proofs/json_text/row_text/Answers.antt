use Rattle.std.proofs.Common.{ap, ◌∙◌}
use Rattle.std.proofs.lemmas.Result.{IfOk-weaker}
use Rattle.serde_json.specs.Written.{compact_text, has_float}
use Rattle.rsp_streams_out.specs.Json.{row_data}
use Rattle.rsp_streams_out.proofs.JsonData.{row_no_float}
use Rattle.rsp_streams_out.proofs.json_text.row_text.Goals as goal

pub returns : goal.returns
returns c =
    let is = c.in_ok-row_value.ensures ∙ ap (row_data c.args.variables.now) c.cells.ensures in
    IfOk-weaker c.to_string.result _ _
    (λ text written. written (ap has_float is ∙ row_no_float c.args.variables.now c.args.row.now) ∙ ap compact_text is) c.to_string.ensures.text
