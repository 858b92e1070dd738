use Rattle.std.proofs.Common.{◌≤◌}
use Rattle.rsp_algebra.specs.declared.tree.Tree.{size-Tree}
use Rattle.rsp_algebra.proofs.tree.Tree.+drop.Given as goal

-- what is left is no deeper than the whole
abbrev pub invariant-spine : goal.invariant-spine
invariant-spine l = size-Tree l.self ≤ size-Tree l.fn.self
