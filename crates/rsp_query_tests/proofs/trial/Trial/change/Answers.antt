use Rattle.std.proofs.Common.{rules}
use Rattle.rsp_query_tests.proofs.Turning.{may_change}
use Rattle.rsp_query_tests.proofs.trial.Trial.change.Goals as goal

pub change-requires-clause-allowed : goal.change-requires-clause-allowed
change-requires-clause-allowed g c =
    may_change
    (g.A.Answer.facts c.self.inside.answer)
    c.self.inside.facts
    c.args.changes.now
    (c.self.invariant (search rules)).held
    c.in_ok-check.ensures
