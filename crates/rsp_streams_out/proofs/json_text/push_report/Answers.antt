use Rattle.std.proofs.Common.{◌++◌, false, codes, ap, ◌∙◌}
use Rattle.serde_json.specs.Written.{items_text}
use Rattle.rsp_streams_out.specs.JsonParts.{rows_items}
use Rattle.rsp_streams_out.proofs.JsonData.{whole_written}
use Rattle.rsp_streams_out.proofs.json_text.push_report.Goals as goal

pub returns-clause-ok : goal.returns-clause-ok
returns-clause-ok c =
    let rows = items_text false (rows_items c.args.variables.now c.args.rows.now) in
    c.in_ok-extend_from_slice.ensures.items ∙ ap (λ text. c.push_rows.new.out.items ++ text) c.as_bytes.ensures.value
    ∙ ap (λ text. text ++ codes "}}\n") c.in_ok-push_rows.ensures.ok
    ∙ ap (λ text. (text ++ rows) ++ codes "}}\n") c.in_ok-push_head.ensures.ok
    ∙ whole_written c.args.out.now.items c.args.name.now c.args.at c.args.variables.now c.args.rows.now
