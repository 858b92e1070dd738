use Rattle.std.proofs.Common.{refl}
use Rattle.rsp_modes.proofs.Making.{making_more, nothing_left, takes_event}
use Rattle.rsp_modes.proofs.generator.GenFeedFeed.next.Goals as goal

pub returns-in-Ok-Some-clause-fits : goal.returns-in-Ok-Some-clause-fits
returns-in-Ok-Some-clause-fits g c =
    let within = rw c.in-Ok-Some.field-0-is at c.in-Ok-Some.ensures.within in
    making_more _ _ c.args.self.now.x _ c.requires.fits within c.next_random-self.ensures

pub returns-in-Ok-Some-clause-left : goal.returns-in-Ok-Some-clause-left
returns-in-Ok-Some-clause-left g c =
    takes_event c.args.self.now.count c.args.self.now.given _ c.in-Ok-Some.event (rw c.in-Ok-Some.field-0-is at c.in-Ok-Some.ensures.event) refl

pub returns-in-Ok-None-clause-left : goal.returns-in-Ok-None-clause-left
returns-in-Ok-None-clause-left g c =
    (refl, nothing_left c.args.self.now.count c.args.self.now.given (rw c.in-Ok-None.field-0-is at c.in-Ok-None.ensures.event))
