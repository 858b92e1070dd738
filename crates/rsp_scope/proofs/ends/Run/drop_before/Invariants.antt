use Rattle.std.proofs.Common.{◌≡◌, length}
use Rattle.rsp_scope.specs.Runs.{IsRun, reaching}
use Rattle.rsp_scope.proofs.ends.Run.drop_before.Given as goal

abbrev pub decreases-loop-front : goal.decreases-loop-front
decreases-loop-front l = length l.self-inside.rising.items

abbrev pub invariant-loop-front : goal.invariant-loop-front
invariant-loop-front l =
    IsRun l.self-inside × (reaching l.next l.self-inside.rising.items ≡ reaching l.next l.initial.self-inside.rising.items)
