use Rattle.std.proofs.lemmas.Result.{IfOk-weaker}
use Rattle.rsp_modes.proofs.Tellings.{json_told, table_told}
use Rattle.rsp_modes.proofs.reports.text_of.Goals as goal

pub returns-in-Table : goal.returns-in-Table
returns-in-Table c =
    IfOk-weaker c.table.result _ _
    (λ text told. table_told c.args.form c.args.report.now c.in-Rows.rows text.items c.in-Table.is c.in-Rows.is (rw (c.as_str-name.ensures, c.as_slice-variables.ensures) at told))
    c.table.ensures

pub returns-in-Json : goal.returns-in-Json
returns-in-Json c =
    IfOk-weaker c.json.result _ _
    (λ text told. json_told c.args.form c.args.report.now c.in-Rows.rows _ _ _ text.items c.in-Json.is c.in-Rows.is c.as_str-name.ensures c.as_slice-variables.ensures c.as_slice.ensures told)
    c.json.ensures
