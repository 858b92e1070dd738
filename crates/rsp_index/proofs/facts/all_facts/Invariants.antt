use Rattle.std.proofs.Common.{◌≡◌, ◌+◌, ◌++◌, drop, length}
use Rattle.rsp_index.proofs.facts.all_facts.Given as goal

abbrev pub invariant-loop-fact : goal.invariant-loop-fact
invariant-loop-fact g l =
    (l.listed.items ++ drop l.fact-index l.facts.keys ≡ l.facts.keys)
    × (l.steps + length (drop l.fact-index l.facts.keys) ≡ l.fn.steps + length l.facts.keys)
