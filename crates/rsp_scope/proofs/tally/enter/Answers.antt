use Rattle.std.proofs.Common.{◌+ℤ◌, ap, ◌∙◌}
use Rattle.rsp_multiset.specs.Weights.{sum_z}
use Rattle.rsp_scope.specs.Moves.{placed_as}
use Rattle.rsp_scope.proofs.Tallies.{moved-in}
use Rattle.rsp_scope.proofs.tally.enter.Goals as goal

pub returns-clause-moves : goal.returns-clause-moves
returns-clause-moves c =
    moved-in c.args.tally.now.spot (placed_as c.args.item.now) c.args.tally.now.content.entries c.place.new.content.entries
    c.args.tally.now.counts
    c.count_more.new.counts
    c.args.change.now
    c.count_more.new.change
    (λ f. c.in_ok-place.ensures f
    ∙ ap (λ g. sum_z f c.args.tally.now.content.entries +ℤ f ((c.args.item.now.time, c.args.item.now.number), g)) c.in_ok-graph.ensures)
    c.in_ok-count_more.ensures.counts
    c.in_ok-count_more.ensures.tells
