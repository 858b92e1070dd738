use Rattle.rsp_trials.proofs.Given.{same-where_none}
use Rattle.rsp_trials.proofs.rows.are_same.Goals as goal

pub returns : goal.returns
returns c = λ none q.
    same-where_none c.new-apart.result c.add_changes.new.self c.subtract_changes.new.self c.args.first.now c.args.second.now c.new-apart.ensures (c.in_ok-add_changes.ensures.sums) (c.in_ok-subtract_changes.ensures.differences) c.is_empty.result c.is_empty.ensures none q
