use Rattle.std.proofs.Common.{sym, ◌∙◌}
use Rattle.rsp_aggregates.proofs.Counted.{enough-counted, given-counted, given-other}
use Rattle.rsp_aggregates.proofs.counting.CountingFold.give.Goals as goal

pub overflow_sub-self : goal.overflow_sub-self
overflow_sub-self c =
    enough-counted c.args.self.now.rows c.args.self.now.count c.args.times c.args.value.now c.requires.0 (sym c.is_counted.ensures ∙ c.if-is_counted.true) c.requires.1

pub returns-then-is_counted-clause-law : goal.returns-then-is_counted-clause-law
returns-then-is_counted-clause-law c = λ values stands.
    given-counted c.args.self.now.rows c.args.self.now.count c.args.times c.args.value.now values (sym c.is_counted.ensures ∙ c.if-is_counted.true) stands

pub returns-else-is_counted-clause-law : goal.returns-else-is_counted-clause-law
returns-else-is_counted-clause-law c = λ values stands.
    given-other c.args.self.now.rows c.args.self.now.count c.args.times c.args.value.now values (sym c.is_counted.ensures ∙ c.if-is_counted.false) stands
