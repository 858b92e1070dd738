use Rattle.rsp_modes.proofs.Reporting.{reported_all, reported_part, reported_stops, reporting_more, reporting_nothing}
use Rattle.rsp_modes.proofs.Spending.{spending_more, spending_nothing, spent_next}
use Rattle.rsp_modes.proofs.blocks.say_reports.Goals as goal

pub reports-init : goal.reports-init
reports-init g c = (reporting_nothing _ _ _, spending_nothing _ _)

pub reports-preserved : goal.reports-preserved
reports-preserved g c =
    let given = rw c.in-Ok-Some.field-0-is at c.in-Ok-Some.ensures.report in (
      reporting_more _ _ _ _ _ _ _ _ _ _ c.reports.invariant.0 given c.in-Ok.ensures,
      spending_more _ _ _ _ _ _ _ c.reports.invariant.1 given c.next_report.ensures.cost,
    )

pub reports-preserved-in-Ok : goal.reports-preserved-in-Ok
reports-preserved-in-Ok g c =
    let given = rw c.in-Ok-Some.field-0-is at c.in-Ok-Some.ensures.report in (
      reporting_more _ _ _ _ _ _ _ _ _ _ c.reports.invariant.0 given c.in-Ok.ensures,
      spending_more _ _ _ _ _ _ _ c.reports.invariant.1 given c.next_report.ensures.cost,
    )

pub returns-in-Err-report-clause-says : goal.returns-in-Err-report-clause-says
returns-in-Err-report-clause-says g c world left stands =
    let given = rw c.in-Ok-Some.field-0-is at c.in-Ok-Some.ensures.report in
    reported_stops world left _ _ _ _ _ _ _ _ _ c.in-Err-report.stop (c.reports.invariant.0 world left stands) given c.in-Err-report.ensures

pub returns-in-Ok-None-clause-says : goal.returns-in-Ok-None-clause-says
returns-in-Ok-None-clause-says g c world left stands =
    let none = rw c.in-Ok-None.field-0-is at c.in-Ok-None.ensures.report in
    (reported_all world left _ c.next_report.new.self _ _ _ _ (c.reports.invariant.0 world left stands) none).0

pub returns-in-Ok-None-clause-stands : goal.returns-in-Ok-None-clause-stands
returns-in-Ok-None-clause-stands g c world left stands =
    let none = rw c.in-Ok-None.field-0-is at c.in-Ok-None.ensures.report in
    (reported_all world left _ c.next_report.new.self _ _ _ _ (c.reports.invariant.0 world left stands) none).1

pub returns-in-Err-clause-says : goal.returns-in-Err-clause-says
returns-in-Err-clause-says g c world left stands = reported_part world left _ _ _ _ _ (c.reports.invariant.0 world left stands)

pub returns-in-Err-report-clause-cost : goal.returns-in-Err-report-clause-cost
returns-in-Err-report-clause-cost g c world left stands = spent_next _ _ _ _ _ c.reports.invariant.1 c.next_report.ensures.cost world left stands

pub returns-in-Ok-None-clause-cost : goal.returns-in-Ok-None-clause-cost
returns-in-Ok-None-clause-cost g c world left stands = spent_next _ _ _ _ _ c.reports.invariant.1 c.next_report.ensures.cost world left stands

pub returns-in-Err-clause-cost : goal.returns-in-Err-clause-cost
returns-in-Err-clause-cost g c world left stands = spent_next _ _ _ _ _ c.reports.invariant.1 c.next_report.ensures.cost world left stands
