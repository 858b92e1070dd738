use Rattle.std.proofs.Common.{◌≡◌, ◌++◌, drop}
use Rattle.rsp_engine.proofs.reporting.shared.Given as goal

abbrev pub invariant-loop-text : goal.invariant-loop-text
invariant-loop-text l = l.shared ++ drop l.text-index l.texts ≡ l.texts
