use Rattle.std.proofs.Common.{sym, arith}
use Rattle.rsp_aggregates.proofs.Summed.{others-room, number-room, numbers-room, number-taken, other-taken}
use Rattle.rsp_aggregates.proofs.summing.SummingFold.take.Goals as goal

pub overflow_add-self : goal.overflow_add-self
overflow_add-self c =
    let room = others-room c.args.self.now.total c.args.self.now.numbers c.args.self.now.others c.args.times c.args.value.now
    c.requires.0 c.requires.1.0 c.requires.1.1 in
    omega (arith, room)

pub take-requires : goal.take-requires
take-requires c =
    number-room c.args.self.now.total c.args.self.now.numbers c.args.self.now.others c.args.times c.args.value.now
    c.requires.0 c.requires.1.0 c.requires.1.1

pub overflow_add-self-in-Some : goal.overflow_add-self-in-Some
overflow_add-self-in-Some c =
    let room = numbers-room c.args.self.now.total c.args.self.now.numbers c.args.self.now.others c.args.times c.args.value.now
    c.requires.0 c.requires.1.0 c.requires.1.1 in
    omega (arith, room)

pub returns-in-None-clause-law : goal.returns-in-None-clause-law
returns-in-None-clause-law c = λ values stands room.
    other-taken c.args.self.now.total c.args.self.now.numbers c.args.self.now.others c.args.times c.args.value.now values
    (sym c.in-None.ensures) stands room

pub returns-in-Some-clause-law : goal.returns-in-Some-clause-law
returns-in-Some-clause-law c = λ values stands room.
    rw c.take.ensures.total
    (number-taken c.args.self.now.total c.args.self.now.numbers c.args.self.now.others c.args.times c.args.value.now values
    c.in-Some.number (sym c.in-Some.ensures) stands room)
