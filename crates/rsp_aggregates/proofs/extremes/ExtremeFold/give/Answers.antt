use Rattle.std.proofs.Common.{◌∙◌}
use Rattle.rsp_aggregates.proofs.Keyed.{last-given, some-given}
use Rattle.rsp_aggregates.proofs.extremes.ExtremeFold.give.Goals as goal

pub returns-in_ok-drop_key-clause-law : goal.returns-in_ok-drop_key-clause-law
returns-in_ok-drop_key-clause-law c = λ values stands.
    last-given c.args.self.now.copies.errors c.give.new.self.errors c.args.self.now.copies.terms c.give.new.self.terms c.args.self.now.keys c.drop_key.new.keys c.args.times c.args.value.now values
    (c.in_ok-give.ensures.last values stands.holds ∙ c.if-branch.true) c.in_ok-drop_key.ensures
    (c.in_ok-give.ensures.values values stands.holds) stands

pub returns-else-branch-clause-law : goal.returns-else-branch-clause-law
returns-else-branch-clause-law c = λ values stands.
    some-given c.args.self.now.copies.errors c.give.new.self.errors c.args.self.now.copies.terms c.give.new.self.terms c.args.self.now.keys c.args.self.now.keys c.args.times c.args.value.now values
    (c.in_ok-give.ensures.last values stands.holds ∙ c.if-branch.false)
    (c.in_ok-give.ensures.values values stands.holds) stands
