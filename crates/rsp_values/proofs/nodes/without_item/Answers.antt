use Rattle.std.proofs.Common.{rules, ◌≡◌, false, length, ◌==◌}
use Rattle.rsp_values.proofs.OtherLengths.{no_item}
use Rattle.rsp_values.proofs.nodes.without_item.Goals as goal

pub returns-else-is_empty : goal.returns-else-is_empty
returns-else-is_empty c row =
    let some : false ≡ (length c.args.list.now == 0) = search rules in
    no_item c.args.list.now row some
