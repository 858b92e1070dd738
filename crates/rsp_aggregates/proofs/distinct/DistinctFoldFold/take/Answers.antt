use Rattle.std.proofs.Common.{ap, ◌∙◌, List}
use Rattle.std.specs.Prelude.{Option}
use Rattle.rsp_terms.specs.declared.term.Term.{Term}
use Rattle.rsp_aggregates.specs.Folds.{once}
use Rattle.rsp_aggregates.proofs.Once.{first-room, first-taken, more-taken}
use Rattle.rsp_aggregates.proofs.distinct.DistinctFoldFold.take.Goals as goal

pub take-requires-then-branch : goal.take-requires-then-branch
take-requires-then-branch c = (
  once c.requires.0,
  (
    c.requires.1.0.folded,
    first-room c.args.self.now.copies.errors c.take.new.self.errors c.args.self.now.copies.terms c.take.new.self.terms c.args.self.now.fold c.args.self.now.fold c.args.times c.args.value.now c.requires.0
        (c.in_ok-take.ensures.first c.requires.0 c.requires.1.0.holds c.requires.1.1 ∙ c.if-branch.true) c.requires.1.1,
  ),
)

pub returns-in_err-take-2-clause-aggregate : goal.returns-in_err-take-2-clause-aggregate
returns-in_err-take-2-clause-aggregate c =
    ap {B = List (Option Term) → Option Term} (λ (aggregate : List (Option Term) → Option Term) (values : List (Option Term)). aggregate (once values)) c.take-then-branch.ensures.aggregate

pub returns-in_ok-take-2-clause-aggregate : goal.returns-in_ok-take-2-clause-aggregate
returns-in_ok-take-2-clause-aggregate c =
    ap {B = List (Option Term) → Option Term} (λ (aggregate : List (Option Term) → Option Term) (values : List (Option Term)). aggregate (once values)) c.take-then-branch.ensures.aggregate

pub returns-in_ok-take-2-clause-law : goal.returns-in_ok-take-2-clause-law
returns-in_ok-take-2-clause-law c = λ values stands room.
    first-taken c.args.self.now.copies.errors c.take.new.self.errors c.args.self.now.copies.terms c.take.new.self.terms c.args.self.now.fold c.take-then-branch.new.self c.args.times c.args.value.now values
    (c.in_ok-take.ensures.first values stands.holds room ∙ c.if-branch.true) room
    (c.in_ok-take.ensures.values values stands.holds room) c.in_ok-take-2.ensures.law stands

pub returns-else-branch-clause-law : goal.returns-else-branch-clause-law
returns-else-branch-clause-law c = λ values stands room.
    more-taken c.args.self.now.copies.errors c.take.new.self.errors c.args.self.now.copies.terms c.take.new.self.terms c.args.self.now.fold c.args.self.now.fold c.args.times c.args.value.now values
    (c.in_ok-take.ensures.first values stands.holds room ∙ c.if-branch.false)
    (c.in_ok-take.ensures.values values stands.holds room) stands
