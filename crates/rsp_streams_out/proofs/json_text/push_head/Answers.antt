use Rattle.std.proofs.Common.{◌++◌, ap, ◌∙◌}
use Rattle.rsp_streams_out.proofs.JsonData.{head_kept}
use Rattle.rsp_streams_out.proofs.json_text.push_head.Goals as goal

pub returns-clause-ok : goal.returns-clause-ok
returns-clause-ok c =
    let head = head_kept _ c.args.name.now c.args.at c.args.variables.now (c.as_bytes-bytes.ensures.value ∙ c.in_ok-text.ensures) in
    c.in_ok-extend_from_slice.ensures.items ∙ ap (λ text. c.args.out.now.items ++ text) head
