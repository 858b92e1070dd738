use Rattle.rsp_scope.proofs.Tallies.{moved-left}
use Rattle.rsp_scope.proofs.tally.leave_first.Goals as goal

pub returns-clause-moves : goal.returns-clause-moves
returns-clause-moves c =
    moved-left c.args.tally.now.spot (c.in-Some.field-0-0, c.in-Some.graph) c.args.tally.now.content.entries c.pop_first.new.self.entries
    c.args.tally.now.counts
    c.count_less.new.counts
    c.args.change.now
    c.count_less.new.change
    c.in-Some.ensures.removal
    c.in_ok-count_less.ensures.counts
    c.in_ok-count_less.ensures.tells
