use Rattle.std.proofs.Common.{sym, ◌∙◌}
use Rattle.rsp_aggregates.proofs.Counted.{taken-counted, taken-other}
use Rattle.rsp_aggregates.proofs.counting.CountingFold.take.Goals as goal

pub returns-then-is_counted-clause-law : goal.returns-then-is_counted-clause-law
returns-then-is_counted-clause-law c = λ values stands room.
    taken-counted c.args.self.now.rows c.args.self.now.count c.args.times c.args.value.now values (sym c.is_counted.ensures ∙ c.if-is_counted.true) stands room

pub returns-else-is_counted-clause-law : goal.returns-else-is_counted-clause-law
returns-else-is_counted-clause-law c = λ values stands room.
    taken-other c.args.self.now.rows c.args.self.now.count c.args.times c.args.value.now values (sym c.is_counted.ensures ∙ c.if-is_counted.false) stands room
