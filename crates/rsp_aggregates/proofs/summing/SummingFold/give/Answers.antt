use Rattle.std.proofs.Common.{sym}
use Rattle.rsp_aggregates.proofs.Summed.{others-enough, other-given, integers-enough, decimals-enough, back-tally, numbers-enough, number-given}
use Rattle.rsp_aggregates.proofs.summing.SummingFold.give.Goals as goal

pub overflow_sub-self : goal.overflow_sub-self
overflow_sub-self c =
    others-enough c.args.self.now.total c.args.self.now.numbers c.args.self.now.others c.args.times c.args.value.now c.requires.0
    (sym c.in-None.ensures) c.requires.1

pub give-requires-clause-integers : goal.give-requires-clause-integers
give-requires-clause-integers c =
    integers-enough c.args.self.now.total c.args.self.now.numbers c.args.self.now.others c.args.times c.args.value.now c.requires.0
    c.in-Some.number (sym c.in-Some.ensures) c.requires.1

pub give-requires-clause-decimals : goal.give-requires-clause-decimals
give-requires-clause-decimals c =
    decimals-enough c.args.self.now.total c.args.self.now.numbers c.args.self.now.others c.args.times c.args.value.now c.requires.0
    c.in-Some.number (sym c.in-Some.ensures) c.requires.1

pub give-requires-clause-within : goal.give-requires-clause-within
give-requires-clause-within c =
    (back-tally c.args.self.now.total c.args.self.now.numbers c.args.self.now.others c.args.times c.args.value.now c.requires.0
    c.in-Some.number (sym c.in-Some.ensures) c.requires.1).within

pub give-requires-clause-whole : goal.give-requires-clause-whole
give-requires-clause-whole c =
    (back-tally c.args.self.now.total c.args.self.now.numbers c.args.self.now.others c.args.times c.args.value.now c.requires.0
    c.in-Some.number (sym c.in-Some.ensures) c.requires.1).whole

pub overflow_sub-self-in-Some : goal.overflow_sub-self-in-Some
overflow_sub-self-in-Some c =
    numbers-enough c.args.self.now.total c.args.self.now.numbers c.args.self.now.others c.args.times c.args.value.now c.requires.0
    c.in-Some.number (sym c.in-Some.ensures) c.requires.1

pub returns-in-None-clause-law : goal.returns-in-None-clause-law
returns-in-None-clause-law c = λ values stands.
    other-given c.args.self.now.total c.args.self.now.numbers c.args.self.now.others c.args.times c.args.value.now values
    (sym c.in-None.ensures) stands

pub returns-in-Some-clause-law : goal.returns-in-Some-clause-law
returns-in-Some-clause-law c = λ values stands.
    rw c.give.ensures
    (number-given c.args.self.now.total c.args.self.now.numbers c.args.self.now.others c.args.times c.args.value.now values
    c.in-Some.number (sym c.in-Some.ensures) stands)
