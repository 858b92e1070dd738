use Rattle.std.proofs.Common.{◌≡◌, filter, length}
use Rattle.rsp_scope.specs.Moves.{Moves, Placed, is_after}
use Rattle.rsp_scope.proofs.tally.let_go.Given as goal

abbrev pub decreases-loop-opening : goal.decreases-loop-opening
decreases-loop-opening l = length l.tally.content.entries

abbrev pub invariant-loop-opening : goal.invariant-loop-opening
invariant-loop-opening l = (l.tally.spot ≡ l.initial.tally.spot)
    × (filter (λ (e : Placed). is_after l.opening e.0.0) l.tally.content.entries ≡ filter (λ (e : Placed). is_after l.opening e.0.0) l.initial.tally.content.entries)
    × Moves l.initial.tally.spot l.initial.tally.content.entries l.tally.content.entries l.initial.tally.counts l.tally.counts l.initial.change l.change
