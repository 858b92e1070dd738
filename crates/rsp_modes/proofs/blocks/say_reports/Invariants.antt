use Rattle.rsp_engine.specs.Stands.{places_left}
use Rattle.rsp_modes.proofs.Reporting.{Reporting}
use Rattle.rsp_modes.proofs.Spending.{Spending}
use Rattle.rsp_modes.proofs.blocks.say_reports.Given as goal

abbrev pub invariant-reports : goal.invariant-reports
invariant-reports g l =
    Reporting
    l.initial.engine
    l.engine
    l.initial.voice
    l.voice
    (g.K.Sink.seen l.initial.out)
    (g.K.Sink.seen l.out)
    × Spending l.initial.engine l.engine l.initial.steps l.steps

abbrev pub decreases-reports : goal.decreases-reports
decreases-reports g l = places_left l.engine
