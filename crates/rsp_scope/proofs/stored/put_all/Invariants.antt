use Rattle.std.proofs.Common.{◌≡◌, drop, take, length}
use Rattle.rsp_scope.specs.Quads.{stored_with}
use Rattle.rsp_scope.proofs.stored.put_all.Given as goal

abbrev pub invariant-loop-quad : goal.invariant-loop-quad
invariant-loop-quad l = (stored_with l.facts.keys (drop l.quad-index l.quads) ≡ stored_with l.initial.facts.keys l.quads)
    × (take (length l.initial.facts.keys) l.facts.keys ≡ l.initial.facts.keys)
