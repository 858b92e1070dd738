-- Words of the way: the moments worked off one report at a time, as the engine gives them.
use Rattle.std.specs.Prelude.{ℕ, not, if◌then◌else◌, Option, None, Some, List, [], ◌∷◌, filter, bytes_eq}
use Rattle.std.specs.Option.{option_map_or}
use Rattle.rsp_engine.specs.declared.report.Report.{Report}
use Rattle.rsp_engine.specs.World.{World, Registration, Query}
use Rattle.rsp_engine.specs.Moments.{Moment}
use Rattle.rsp_engine.specs.Reports.{after_report, is_overfull, live_query, report_of, work_of_report}

-- the moments that are left behind a query's report at t: an overfull one strikes those of its query
abbrev pub moments_behind : World → Registration → ℕ → List Moment → List Moment
moments_behind world query t left =
    if is_overfull world query t then filter (λ (moment : Moment). not (bytes_eq moment.query query.name)) left else left

-- a report, the steps that it may take, the world behind it, and the moments that are then left
pub record ReportStep : Type 0 where
  pub report : Report
  pub work : ℕ
  pub after : World
  pub left : List Moment

-- the step to the next report of the moments that are left; a moment of a query that is no longer live has none
abbrev pub next_step : World → List Moment → Option ReportStep
next_step world [] = None
next_step world (moment ∷ left) =
    option_map_or
    (λ (query : Query).
    Some
    (record {
      report = report_of world query moment.at;
      work = work_of_report world query moment.at;
      after = after_report world query.registration moment.at;
      left = moments_behind world query.registration moment.at left;
    }))
    (live_query world moment.query)
    (next_step world left)

-- the steps that it may take; none where no report is left
abbrev pub next_work : World → List Moment → ℕ
next_work world left = option_map_or (λ (step : ReportStep). step.work) (next_step world left) 0
