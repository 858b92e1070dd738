use Rattle.std.proofs.Common.{ap, filter, ◌∙◌}
use Rattle.rsp_scope.specs.Moves.{Placed, is_after}
use Rattle.rsp_scope.proofs.Tallies.{moved-then}
use Rattle.rsp_scope.proofs.tally.let_go.Goals as goal

pub loop-opening-preserved : goal.loop-opening-preserved
loop-opening-preserved c = (
  c.in_ok-leave_first.ensures.spot ∙ c.loop-opening.invariant.0,
  ap (λ es. filter (λ (e : Placed). is_after c.args.opening e.0.0) es) c.in_ok-leave_first.ensures.rest
      ∙ ((c.first_leaves.ensures.leaves c.loop-opening-test.true).1 ∙ c.loop-opening.invariant.1),
  moved-then c.args.tally.now.spot c.loop-opening.tally.spot c.args.tally.now.content.entries c.loop-opening.tally.content.entries c.leave_first.new.tally.content.entries
      c.args.tally.now.counts
      c.loop-opening.tally.counts
      c.leave_first.new.tally.counts
      c.args.change.now
      c.loop-opening.change
      c.leave_first.new.change
      c.loop-opening.invariant.0
      c.loop-opening.invariant.2
      c.in_ok-leave_first.ensures.moves,
)
