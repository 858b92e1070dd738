use Rattle.std.proofs.Common.{◌∙◌}
use Rattle.rsp_aggregates.proofs.Keyed.{first-taken, more-taken}
use Rattle.rsp_aggregates.proofs.extremes.ExtremeFold.take.Goals as goal

pub returns-in_ok-put_key-clause-law : goal.returns-in_ok-put_key-clause-law
returns-in_ok-put_key-clause-law c = λ values stands room.
    first-taken c.args.self.now.copies.errors c.take.new.self.errors c.args.self.now.copies.terms c.take.new.self.terms c.args.self.now.keys c.put_key.new.keys c.args.times c.args.value.now values
    (c.in_ok-take.ensures.first values stands.holds room ∙ c.if-branch.true) c.in_ok-put_key.ensures
    (c.in_ok-take.ensures.values values stands.holds room) stands

pub returns-else-branch-clause-law : goal.returns-else-branch-clause-law
returns-else-branch-clause-law c = λ values stands room.
    more-taken c.args.self.now.copies.errors c.take.new.self.errors c.args.self.now.copies.terms c.take.new.self.terms c.args.self.now.keys c.args.self.now.keys c.args.times c.args.value.now values
    (c.in_ok-take.ensures.first values stands.holds room ∙ c.if-branch.false)
    (c.in_ok-take.ensures.values values stands.holds room) stands
