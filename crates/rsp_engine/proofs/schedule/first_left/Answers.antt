use Rattle.rsp_engine.proofs.DueNext.{item_first, item_sought, soonest_first, soonest_sought}
use Rattle.rsp_engine.proofs.schedule.first_left.Goals as goal

pub returns-in-Some-clause-first : goal.returns-in-Some-clause-first
returns-in-Some-clause-first g c =
    soonest_first c.args.arrived.now c.args.next c.requires.next c.args.from c.requires.from c.args.queries.now c.requires.sought
    c.in-Some.place c.in-Some.ensures

pub returns-in-Some-clause-sought : goal.returns-in-Some-clause-sought
returns-in-Some-clause-sought g c =
    soonest_sought c.args.arrived.now c.args.next c.requires.next c.args.from c.requires.from c.args.queries.now c.requires.sought
    c.in-Some.place c.in-Some.ensures

pub returns-in-None-clause-first : goal.returns-in-None-clause-first
returns-in-None-clause-first g c =
    item_first c.args.arrived.now c.args.next c.requires.next c.args.from c.requires.from c.args.queries.now c.requires.sought
    c.in-None.ensures c.first_on_item.result (rw c.first_number.ensures at c.first_on_item.ensures)

pub returns-in-None-clause-sought : goal.returns-in-None-clause-sought
returns-in-None-clause-sought g c =
    item_sought c.args.arrived.now c.args.next c.requires.next c.args.from c.requires.from c.args.queries.now c.requires.sought
    c.in-None.ensures c.first_on_item.result (rw c.first_number.ensures at c.first_on_item.ensures)
