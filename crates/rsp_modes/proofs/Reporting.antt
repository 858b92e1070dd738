-- The reports of an event, said one behind another; and what an event says.
use Rattle.std.proofs.Common.{◌≡◌, true, false, Bool, Ok, Err, Result, Option, Some, None, List, [], ◌∷◌, ◌++◌, map, refl, sym, subst, ◌∙◌, ap, append_assoc}
use Rattle.std.proofs.lemmas.List.{append-nil}
use Rattle.std.specs.List.{list_any}
use Rattle.std.specs.Prelude.{IsTrue, OnOk}
use Rattle.std.specs.Option.{is_some}
use Rattle.rsp_events.specs.declared.event.Content.{Content}
use Rattle.rsp_events.specs.declared.event.Content.TheVariants as content
use Rattle.rsp_events.specs.declared.event.Event.{Event}
use Rattle.rsp_engine.specs.declared.refused.Refused.{Refused}
use Rattle.rsp_engine.specs.declared.report.Report.{Report}
use Rattle.rsp_engine.specs.Accept.{accept}
use Rattle.rsp_engine.specs.Moments.{Moment, moments}
use Rattle.rsp_engine.specs.Offers.{GivesFirst, HasNone, Refuses}
use Rattle.rsp_engine.specs.Reports.{reports, work_of_reports, world_behind}
use Rattle.rsp_engine.specs.Stands.{State, Stands, is_idle}
use Rattle.rsp_engine.specs.World.{World}
use Rattle.rsp_engine.proofs.ReportSteps.{reports_step, world_step}
use Rattle.rsp_io.specs.Seen.{SinkSeen}
use Rattle.rsp_modes.specs.declared.refusals.Answered.{Answered}
use Rattle.rsp_modes.specs.declared.refusals.Answered.TheVariants as answered
use Rattle.rsp_modes.specs.declared.refusals.Place.{Place}
use Rattle.rsp_modes.specs.declared.stop.Stop.{Stop}
use Rattle.rsp_modes.specs.declared.voice.Voice.{Voice}
use Rattle.rsp_modes.specs.Output.{Saying, Step, a_report, answer_step, content_step, is_refusal}
use Rattle.rsp_modes.specs.Reasons.{event_reason, reason_of}
use Rattle.rsp_modes.specs.Refusals.{Reason}
use Rattle.rsp_modes.specs.Runs.{OffersContent}
use Rattle.rsp_modes.specs.Voices.{Said, SaidFront, Says, StopsSaying, refusal_said}
use Rattle.rsp_modes.proofs.Naming.{refuses_as}
use Rattle.rsp_modes.proofs.Tellings.{named_refusal}
use Rattle.rsp_modes.proofs.Voicing.{said_more, said_nothing, stops_before_more, stops_behind}

-- some are said, and the engine stands for the world and the moments behind them
pub record Reported (world : World) (left : List Moment) (engine : State) (voice voice' : Voice) (sink sink' : SinkSeen) : Type 0 where
  pub here : World
  pub rest : List Moment
  pub done : List Saying
  pub stands : Stands engine here rest
  pub all : map a_report (reports world left) ≡ done ++ map a_report (reports here rest)
  pub leads : world_behind world left ≡ world_behind here rest
  pub told : Said voice voice' sink sink' done

abbrev pub Reporting : State → State → Voice → Voice → SinkSeen → SinkSeen → Type 0
Reporting before engine voice voice' sink sink' =
    (world : World) (left : List Moment) → Stands before world left → Reported world left engine voice voice' sink sink'

pub reporting_nothing : (engine : State) (voice : Voice) (sink : SinkSeen) → Reporting engine engine voice voice sink sink
reporting_nothing engine voice sink =
    λ world left stands.
    record { here = world; rest = left; done = []; stands = stands; all = refl; leads = refl; told = said_nothing voice sink }

reported_more : (world : World) (left : List Moment) (engine after : State) (a b c : Voice) (s t u : SinkSeen) (report : Report) → Reported world left engine a b s t → GivesFirst engine report after → Said b c t u (a_report report ∷ []) → Reported world left after a c s u
reported_more world left engine after a b c s t u report told gives says =
    let first = gives.gives told.here told.rest told.stands in
    record {
      here = first.step.after;
      rest = first.step.left;
      done = told.done ++ a_report first.step.report ∷ [];
      stands = first.stands;
      all =
          told.all
          ∙ (ap (λ rs. told.done ++ map a_report rs) (reports_step told.here told.rest first.step first.is_next)
          ∙ sym (append_assoc told.done (a_report first.step.report ∷ []) (map a_report (reports first.step.after first.step.left))));
      leads = told.leads ∙ world_step told.here told.rest first.step first.is_next;
      told = said_more a b c s t u told.done _ told.told (subst (λ r. Said b c t u (a_report r ∷ [])) first.is_report says);
    }

pub reporting_more : (before engine after : State) (a b c : Voice) (s t u : SinkSeen) (report : Report) → Reporting before engine a b s t → GivesFirst engine report after → Said b c t u (a_report report ∷ []) → Reporting before after a c s u
reporting_more before engine after a b c s t u report reporting gives says =
    λ world left stands. reported_more world left engine after a b c s t u report (reporting world left stands) gives says

-- no report is left
pub reported_all : (world : World) (left : List Moment) (engine after : State) (a b : Voice) (s t : SinkSeen) → Reported world left engine a b s t → HasNone engine after → Said a b s t (map a_report (reports world left)) × Stands after (world_behind world left) []
reported_all world left engine after a b s t told none =
    let ended : told.rest ≡ [] = none.none told.here told.rest told.stands in
    let all : map a_report (reports world left) ≡ told.done = told.all ∙ rw ended (append-nil told.done) in
    let led : world_behind world left ≡ told.here = told.leads ∙ rw ended refl in
    (rw all told.told, rw (led, none.unchanged, ← ended) told.stands)

pub reported_stops : (world : World) (left : List Moment) (engine after : State) (a b c : Voice) (s t u : SinkSeen) (report : Report) (why : Stop) → Reported world left engine a b s t → GivesFirst engine report after → StopsSaying why b c t u (a_report report ∷ []) → StopsSaying why a c s u (map a_report (reports world left))
reported_stops world left engine after a b c s t u report why told gives stops =
    let first = gives.gives told.here told.rest told.stands in
    let all = told.all ∙ ap (λ rs. told.done ++ map a_report rs) (reports_step told.here told.rest first.step first.is_next) in
    rw all
    (stops_behind a b c s t u told.done _ why told.told
    (stops_before_more b c t u (a_report first.step.report ∷ []) _ why (subst (λ r. StopsSaying why b c t u (a_report r ∷ [])) first.is_report stops)))

-- memory was refused between two reports
pub reported_part : (world : World) (left : List Moment) (engine : State) (a b : Voice) (s t : SinkSeen) → Reported world left engine a b s t → SaidFront a b s t (map a_report (reports world left))
reported_part world left engine a b s t told = record { front = told.done; rest = map a_report (reports told.here told.rest); whole = told.all; told = told.told }

-- ---- what a block says

no_refusal : (reports : List Report) → list_any is_refusal (map a_report reports) ≡ false
no_refusal [] = refl
no_refusal (report ∷ reports) = no_refusal reports

abbrev pub told_step : World → List Moment → Step
told_step after left = record {
  said = map a_report (reports after left);
  work = work_of_reports after left;
  after = world_behind after left;
}

-- a content that was taken says the reports of what is left, and leads to the world behind them
pub record Taken (world : World) (place : Place) (content : Content) (new : State) : Type 0 where
  pub after : World
  pub left : List Moment
  pub stands : Stands new after left
  pub says : content_step world place content ≡ told_step after left

pub taken : (old new : State) (content : Content) (place : Place) (world : World) (done : Unit {0}) → OffersContent old content (Ok done) new → Stands old world [] → Taken world place content new
taken old new (content.Event event) place world done offers stands =
    let accepted = offers.stands world stands in
    record {
      after = accepted.0;
      left = moments world event accepted.0;
      stands = accepted.2;
      says = ap (answer_step world place event) accepted.1;
    }
taken old new (content.Fault fault) place world done offers stands = absurd offers

pub taken_says : (world : World) (place : Place) (content : Content) (new : State) (is : Taken world place content new) (a b : Voice) (s t : SinkSeen) → Said a b s t (map a_report (reports is.after is.left)) → Says a b s t (content_step world place content).said (Ok false)
taken_says world place content new is a b s t said = rw is.says (said, sym (no_refusal (reports is.after is.left)))

pub taken_stops : (world : World) (place : Place) (content : Content) (new : State) (is : Taken world place content new) (a b : Voice) (s t : SinkSeen) (why : Stop) → StopsSaying why a b s t (map a_report (reports is.after is.left)) → Says a b s t (content_step world place content).said (Err why)
taken_stops world place content new is a b s t why stops = rw is.says stops

pub taken_stands : (world : World) (place : Place) (content : Content) (new engine : State) (is : Taken world place content new) → Stands engine (world_behind is.after is.left) [] → Stands engine (content_step world place content).after []
taken_stands world place content new engine is stands = rw is.says stands

-- a refused event says its refusal; want of memory says nothing
refused_event_says : (old new : State) (event : Event) (why : Refused) (place : Place) (world : World) (a b : Voice) (s t : SinkSeen) (result : Result Bool Stop) → Refuses old event why new → Stands old world [] → Says a b s t (refusal_said place (event_reason why)) result → OnOk result (is_some (event_reason why) ≡ true) → Says a b s t (content_step world place (content.Event event)).said result
refused_event_says old new event why place world a b s t result refuses stands = by (event_reason why) refl result
  where
    by : (o : Option Reason) → event_reason why ≡ o → (result : Result Bool Stop) → Says a b s t (refusal_said place o) result → OnOk result (is_some o ≡ true) → Says a b s t (content_step world place (content.Event event)).said result
    by None is (Ok refused) says some = cc
    by None is (Err stop) says some = stops_before_more a b s t [] (content_step world place (content.Event event)).said stop says
    by (Some reason) is result says some =
        let named = refuses_as old new event why reason refuses is in
        rw (ap (λ answer. (answer_step world place event answer).said) (named.0.refused world stands), ← named.1) says

refused_event_stands : (old new : State) (event : Event) (why : Refused) (place : Place) (world : World) → Refuses old event why new → is_some (event_reason why) ≡ true → Stands old world [] → Stands new (content_step world place (content.Event event)).after []
refused_event_stands old new event why place world refuses some stands =
    let answers = named_refusal old new event why refuses some in
    rw (ap (λ answer. (answer_step world place event answer).after) (answers.refused world stands), answers.unchanged) stands

-- one that isn't taken says its refusal; want of memory says nothing
pub refused_says : (old new : State) (content : Content) (answered : Answered) (place : Place) (world : World) (a b : Voice) (s t : SinkSeen) (result : Result Bool Stop) → OffersContent old content (Err answered) new → Stands old world [] → Says a b s t (refusal_said place (reason_of answered)) result → OnOk result (is_some (reason_of answered) ≡ true) → Says a b s t (content_step world place content).said result
refused_says old new (content.Event event) (answered.Event why) place world a b s t result refuses stands says some =
    refused_event_says old new event why place world a b s t result refuses stands says some
refused_says old new (content.Event event) (answered.Fault fault) place world a b s t result refuses stands says some = absurd refuses
refused_says old new (content.Event event) (answered.Line fault) place world a b s t result refuses stands says some = absurd refuses
refused_says old new (content.Fault fault) (answered.Fault same) place world a b s t result refuses stands says some =
    rw (← refuses.0) says
refused_says old new (content.Fault fault) (answered.Event why) place world a b s t result refuses stands says some = absurd refuses
refused_says old new (content.Fault fault) (answered.Line why) place world a b s t result refuses stands says some = absurd refuses

pub refused_stands : (old new : State) (content : Content) (answered : Answered) (place : Place) (world : World) → OffersContent old content (Err answered) new → is_some (reason_of answered) ≡ true → Stands old world [] → Stands new (content_step world place content).after []
refused_stands old new (content.Event event) (answered.Event why) place world refuses some stands =
    refused_event_stands old new event why place world refuses some stands
refused_stands old new (content.Event event) (answered.Fault fault) place world refuses some stands = absurd refuses
refused_stands old new (content.Event event) (answered.Line fault) place world refuses some stands = absurd refuses
refused_stands old new (content.Fault fault) (answered.Fault same) place world refuses some stands = rw refuses.1 stands
refused_stands old new (content.Fault fault) (answered.Event why) place world refuses some stands = absurd refuses
refused_stands old new (content.Fault fault) (answered.Line why) place world refuses some stands = absurd refuses

-- and the engine has still no report left
pub refused_idle : (old new : State) (content : Content) (answered : Answered) → OffersContent old content (Err answered) new → is_some (reason_of answered) ≡ true → IsTrue (is_idle old) → IsTrue (is_idle new)
refused_idle old new (content.Event event) (answered.Event why) refuses some idle = rw (named_refusal old new event why refuses some).unchanged idle
refused_idle old new (content.Event event) (answered.Fault fault) refuses some idle = absurd refuses
refused_idle old new (content.Event event) (answered.Line fault) refuses some idle = absurd refuses
refused_idle old new (content.Fault fault) (answered.Fault same) refuses some idle = rw refuses.1 idle
refused_idle old new (content.Fault fault) (answered.Event why) refuses some idle = absurd refuses
refused_idle old new (content.Fault fault) (answered.Line why) refuses some idle = absurd refuses
