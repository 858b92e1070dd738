use Rattle.std.proofs.Common.{ap, ◌∙◌, List}
use Rattle.std.specs.Prelude.{Option}
use Rattle.rsp_terms.specs.declared.term.Term.{Term}
use Rattle.rsp_aggregates.specs.Folds.{once}
use Rattle.rsp_aggregates.proofs.Once.{last-there, last-given, some-given}
use Rattle.rsp_aggregates.proofs.distinct.DistinctFoldFold.give.Goals as goal

pub give-requires-then-branch : goal.give-requires-then-branch
give-requires-then-branch c = (
  once c.requires.0,
  last-there c.args.self.now.copies.errors c.give.new.self.errors c.args.self.now.copies.terms c.give.new.self.terms c.args.self.now.fold c.args.self.now.fold c.args.times c.args.value.now c.requires.0
      (c.in_ok-give.ensures.last c.requires.0 c.requires.1.holds ∙ c.if-branch.true) c.requires.1,
)

pub returns-in_err-give-2-clause-aggregate : goal.returns-in_err-give-2-clause-aggregate
returns-in_err-give-2-clause-aggregate c =
    ap {B = List (Option Term) → Option Term} (λ (aggregate : List (Option Term) → Option Term) (values : List (Option Term)). aggregate (once values)) c.give-then-branch.ensures.aggregate

pub returns-in_ok-give-2-clause-aggregate : goal.returns-in_ok-give-2-clause-aggregate
returns-in_ok-give-2-clause-aggregate c =
    ap {B = List (Option Term) → Option Term} (λ (aggregate : List (Option Term) → Option Term) (values : List (Option Term)). aggregate (once values)) c.give-then-branch.ensures.aggregate

pub returns-in_ok-give-2-clause-law : goal.returns-in_ok-give-2-clause-law
returns-in_ok-give-2-clause-law c = λ values stands.
    last-given c.args.self.now.copies.errors c.give.new.self.errors c.args.self.now.copies.terms c.give.new.self.terms c.args.self.now.fold c.give-then-branch.new.self c.args.times c.args.value.now values
    (c.in_ok-give.ensures.last values stands.holds ∙ c.if-branch.true)
    (c.in_ok-give.ensures.values values stands.holds) c.in_ok-give-2.ensures.law stands

pub returns-else-branch-clause-law : goal.returns-else-branch-clause-law
returns-else-branch-clause-law c = λ values stands.
    some-given c.args.self.now.copies.errors c.give.new.self.errors c.args.self.now.copies.terms c.give.new.self.terms c.args.self.now.fold c.args.self.now.fold c.args.times c.args.value.now values
    (c.in_ok-give.ensures.last values stands.holds ∙ c.if-branch.false)
    (c.in_ok-give.ensures.values values stands.holds) stands
