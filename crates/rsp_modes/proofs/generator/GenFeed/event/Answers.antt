use Rattle.std.proofs.Common.{◌≡◌, ◌≤◌, ◌+◌, refl}
use Rattle.rsp_modes.proofs.Making.{item_event, last_event, no_event}
use Rattle.rsp_modes.proofs.generator.GenFeed.event.Goals as goal

pub returns-then-self-clause-event : goal.returns-then-self-clause-event
returns-then-self-clause-event c = no_event c.args.self.now.count c.args.self.now.given c.if-self.true

pub returns-then-self-2-clause-event : goal.returns-then-self-2-clause-event
returns-then-self-2-clause-event c =
    let within : c.args.self.now.given ≤ c.args.self.now.count + 1 = c.if-self.false in
    last_event c.args.self.now.count c.args.self.now.given _ within c.if-self-2.true refl

pub returns-clause-event : goal.returns-clause-event
returns-clause-event c =
    let low : c.args.self.now.given ≤ c.args.self.now.count = c.if-self-2.false in
    let some : c.args.self.now.given ≡ 0 → ⊥ = c.if-self-eq0.false in
    item_event c.args.self.now.count c.args.self.now.given c.args.self.now.x c.in_ok-item.field-0 c.requires some low c.in_ok-item.ensures.item
