use Rattle.std.proofs.Common.{◌≡◌, IsTrue}
use Rattle.rsp_engine.specs.Stands.{is_idle}
use Rattle.rsp_modes.proofs.Driving.{Driven}
use Rattle.rsp_modes.proofs.Spending.{DrivenSpending}
use Rattle.rsp_modes.proofs.drive.drive.Given as goal

abbrev pub invariant-batches : goal.invariant-batches
invariant-batches g l =
    IsTrue (is_idle l.engine)
    × (g.F.Feed.settings l.feed ≡ g.F.Feed.settings l.initial.feed)
    × g.F.Feed.fits l.feed
    × Driven
    (λ start given. g.F.Feed.gave l.initial.feed start (g.S.Source.seen l.initial.from) given)
    (λ start given. g.F.Feed.gave l.feed start (g.S.Source.seen l.from) given)
    (g.F.Feed.left l.initial.feed)
    (g.F.Feed.left l.feed)
    l.initial.engine
    l.engine
    l.initial.voice
    l.voice
    (g.K.Sink.seen l.initial.out)
    (g.K.Sink.seen l.out)
    l.refused
    × DrivenSpending
    (λ start given. g.F.Feed.gave l.initial.feed start (g.S.Source.seen l.initial.from) given)
    (λ start given. g.F.Feed.gave l.feed start (g.S.Source.seen l.from) given)
    (g.F.Feed.left l.initial.feed)
    (g.F.Feed.left l.feed)
    l.initial.engine
    l.engine
    l.initial.steps
    l.steps

abbrev pub decreases-batches : goal.decreases-batches
decreases-batches g l = g.F.Feed.turns l.feed
