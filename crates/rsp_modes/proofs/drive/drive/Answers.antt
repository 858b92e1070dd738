use Rattle.std.proofs.Common.{refl, ◌∙◌}
use Rattle.rsp_modes.proofs.Driving.{driven_more, driven_nothing, driven_stops}
use Rattle.rsp_modes.proofs.Spending.{driven_free, driven_further, spends_stopped}
use Rattle.rsp_modes.proofs.drive.drive.Goals as goal

pub batches-init : goal.batches-init
batches-init g c = (c.requires.idle, refl, c.requires.fits, driven_nothing _ _ _ _ _, driven_free _ _ _ _)

pub batches-preserved : goal.batches-preserved
batches-preserved g c =
    let given = rw c.in-Ok-Some.field-0-is at c.in-Ok-Some.ensures.given in
    let left = rw (c.in-Ok-Some.is, c.in-Ok-Some.field-0-is) at c.next.ensures.left in (
      c.in-Ok.ensures.idle,
      c.next.ensures.settings ∙ c.batches.invariant.1,
      c.next.ensures.fits,
      rw
          c.either-refused.ensures
          (driven_more _ _ _ _ _ _ _ _ _ _ _ _ _ _ _ _ _ c.in-Ok-Some.batch c.batches.invariant.3 given left c.in-Ok.ensures.says c.in-Ok.ensures.stands),
      driven_further _ _ _ _ _ _ _ _ _ _ _ _ c.in-Ok-Some.batch c.batches.invariant.4 given left c.work_off.ensures.cost c.in-Ok.ensures.stands,
    )

pub returns-in-Err-work_off-clause-drove : goal.returns-in-Err-work_off-clause-drove
returns-in-Err-work_off-clause-drove g c start before gave =
    let given = rw c.in-Ok-Some.field-0-is at c.in-Ok-Some.ensures.given in
    let left = rw (c.in-Ok-Some.is, c.in-Ok-Some.field-0-is) at c.next.ensures.left in
    driven_stops _ _
    (λ start given. g.F.Feed.gave c.next.new.self start (g.S.Source.seen c.next.new.from) given)
    (λ start given. g.F.Feed.ended c.next.new.self start (g.S.Source.seen c.next.new.from) given)
    _ _ _ _ _ _ _ _ _ _ _ _ _ c.in-Err-work_off.stop c.in-Ok-Some.batch start before
    c.batches.invariant.3
    given
    left
    c.in-Err-work_off.ensures.says
    gave

pub returns-in-Err-work_off-clause-cost : goal.returns-in-Err-work_off-clause-cost
returns-in-Err-work_off-clause-cost g c start before gave =
    let given = rw c.in-Ok-Some.field-0-is at c.in-Ok-Some.ensures.given in
    let left = rw (c.in-Ok-Some.is, c.in-Ok-Some.field-0-is) at c.next.ensures.left in
    spends_stopped _ _
    (λ start given. g.F.Feed.gave c.next.new.self start (g.S.Source.seen c.next.new.from) given)
    (λ start given. g.F.Feed.ended c.next.new.self start (g.S.Source.seen c.next.new.from) given)
    _ _ _ _ _ _ _ _ c.in-Err-work_off.stop c.in-Ok-Some.batch start before
    c.batches.invariant.4
    given
    left
    c.work_off.ensures.cost
    gave
