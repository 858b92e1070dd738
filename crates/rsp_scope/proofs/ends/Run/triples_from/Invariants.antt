use Rattle.std.proofs.Common.{◌≡◌, drop}
use Rattle.rsp_scope.specs.Runs.{reaching, triples_in}
use Rattle.rsp_scope.proofs.ends.Run.triples_from.Given as goal

abbrev pub invariant-loop-at : goal.invariant-loop-at
invariant-loop-at l =
    (l.triples ≡ triples_in (drop l.at l.self-inside.rising.items))
    × (reaching l.next (drop l.at l.self-inside.rising.items) ≡ reaching l.next l.self-inside.rising.items)
