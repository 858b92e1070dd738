-- Moments that are worked off one report at a time are worked off as defined.
use Rattle.std.proofs.Common.{◌≡◌, ℕ, ◌+◌, ◌≤◌, Bool, true, false, List, [], ◌∷◌, map, filter, Option, None, Some, refl, sym, ◌∙◌, ap, subst, arith}
use Rattle.std.specs.Prelude.{if◌then◌else◌, not, bytes_eq}
use Rattle.std.specs.List.{find}
use Rattle.std.specs.Option.{option_map_or}
use Rattle.std.proofs.lemmas.Slice.Eq.{bytes_eq-Decides}
use Rattle.rsp_engine.specs.declared.report.Report.{Report}
use Rattle.rsp_engine.specs.World.{World, Query, Registration}
use Rattle.rsp_engine.specs.Moments.{Moment}
use Rattle.rsp_engine.specs.Accept.{has_name, without}
use Rattle.rsp_engine.specs.Reports.{after_report, is_overfull, live_query, query_after_report, report_of, reported_at, reports, work_of_report, work_of_reports, world_behind}
use Rattle.rsp_engine.specs.Steps.{ReportStep, moments_behind, next_step, next_work}

-- ---- a query that isn't live isn't after a report either

abbrev named : List ℕ → Query → Bool
named name query = has_name name query.registration

abbrev Lacks : List ℕ → List Query → Type 0
Lacks name queries = find (named name) queries ≡ None

lacks_first : (name : List ℕ) (b : Bool) (query : Query) (queries : List Query) → named name query ≡ b → Lacks name (query ∷ queries) → b ≡ false
lacks_first name true query queries is none = absurd (let found : find (named name) (query ∷ queries) ≡ Some query = rw is refl in cc)
lacks_first name false query queries is none = refl

lacks_others : (name : List ℕ) (query : Query) (queries : List Query) → Lacks name (query ∷ queries) → Lacks name queries
lacks_others name query queries none =
    let other = lacks_first name (named name query) query queries refl none in
    rw other at none

lacks_both : (name : List ℕ) (query : Query) (queries : List Query) → named name query ≡ false → Lacks name queries → Lacks name (query ∷ queries)
lacks_both name query queries other none = rw other none

gone : (name : List ℕ) (queries : List Query) → Lacks name (without name queries)
gone name [] = refl
gone name (query ∷ queries) = by (named name query) refl (gone name queries)
  where
    by : (b : Bool) → named name query ≡ b → Lacks name (without name queries) → Lacks name (without name (query ∷ queries))
    by true is rest = rw is rest
    by false is rest = rw is (lacks_both name query (without name queries) is rest)

filtered : (name : List ℕ) (test : Query → Bool) (queries : List Query) → Lacks name queries → Lacks name (filter test queries)
filtered name test [] none = refl
filtered name test (query ∷ queries) none =
    by (test query) refl (filtered name test queries (lacks_others name query queries none))
  where
    by : (b : Bool) → test query ≡ b → Lacks name (filter test queries) → Lacks name (filter test (query ∷ queries))
    by true is rest = rw is (lacks_both name query (filter test queries) (lacks_first name (named name query) query queries refl none) rest)
    by false is rest = rw is rest

same_name : (world : World) (t : ℕ) (other name : List ℕ) (query : Query) → named name (query_after_report world t other query) ≡ named name query
same_name world t other name query = by (has_name other query.registration)
  where
    by : (b : Bool) → named name (if b then reported_at world t query else query) ≡ named name query
    by true = refl
    by false = refl

reported : (world : World) (t : ℕ) (other name : List ℕ) (queries : List Query) → Lacks name queries → Lacks name (map (query_after_report world t other) queries)
reported world t other name [] none = refl
reported world t other name (query ∷ queries) none =
    lacks_both name (query_after_report world t other query) (map (query_after_report world t other) queries)
    (same_name world t other name query ∙ lacks_first name (named name query) query queries refl none)
    (reported world t other name queries (lacks_others name query queries none))

lacks_after : (name : List ℕ) (world : World) (query : Registration) (t : ℕ) → Lacks name world.queries → Lacks name (after_report world query t).queries
lacks_after name world query t none = by (is_overfull world query t)
  where
    after : Bool → World
    after b =
        if b then record world { queries = without query.name world.queries }
        else record world { queries = map (query_after_report world t query.name) world.queries }

    by : (b : Bool) → Lacks name (after b).queries
    by true = filtered name (λ (q : Query). not (has_name query.name q.registration)) world.queries none
    by false = reported world t query.name name world.queries none

-- ---- moments of a query that isn't live give nothing

-- the step of a moment, by its live query
abbrev step_of : World → Moment → List Moment → Option Query → Option ReportStep
step_of world moment left query =
    option_map_or
    (λ (query : Query).
    Some
    (record {
      report = report_of world query moment.at;
      work = work_of_report world query moment.at;
      after = after_report world query.registration moment.at;
      left = moments_behind world query.registration moment.at left;
    }))
    query
    (next_step world left)

step_same : (a b : ReportStep) → Some a ≡ Some b → a ≡ b
step_same a b is = cc

-- moments worked off: what the world behind them makes, and what each report, and the steps that it may take, add to what those
-- behind it make
module _ {R : Type 0} (ends : World → R) (adds : Report → ℕ → R → R) where
  abbrev pub worked : World → List Moment → R
  worked world [] = ends world
  worked world (moment ∷ left) =
      option_map_or
      (λ (query : Query).
      adds (report_of world query moment.at) (work_of_report world query moment.at)
      (worked (after_report world query.registration moment.at) left))
      (live_query world moment.query)
      (worked world left)

  -- the first moment, by its live query
  abbrev pub first_by : World → Moment → List Moment → Option Query → R
  first_by world moment left query =
      option_map_or
      (λ (query : Query).
      adds (report_of world query moment.at) (work_of_report world query moment.at)
      (worked (after_report world query.registration moment.at) left))
      query
      (worked world left)

  struck : (name : List ℕ) (left : List Moment) (world : World) → Lacks name world.queries
      → worked world (filter (λ (m : Moment). not (bytes_eq m.query name)) left) ≡ worked world left
  struck name [] world none = refl
  struck name (moment ∷ left) world none = by (bytes_eq moment.query name) refl (λ other lacks. struck name left other lacks)
    where
      Rest : Type 0
      Rest = (other : World) → Lacks name other.queries
          → worked other (filter (λ (m : Moment). not (bytes_eq m.query name)) left) ≡ worked other left

      kept : (query : Option Query) → Rest
          → first_by world moment (filter (λ (m : Moment). not (bytes_eq m.query name)) left) query ≡ first_by world moment left query
      kept None rest = rest world none
      kept (Some query) rest =
          ap (adds (report_of world query moment.at) (work_of_report world query moment.at))
          (rest (after_report world query.registration moment.at) (lacks_after name world query.registration moment.at none))

      by : (b : Bool) → bytes_eq moment.query name ≡ b → Rest
          → worked world (filter (λ (m : Moment). not (bytes_eq m.query name)) (moment ∷ left)) ≡ worked world (moment ∷ left)
      by true is rest =
          let same : moment.query ≡ name = (bytes_eq-Decides moment.query name).0 is in
          let dead : live_query world moment.query ≡ None = ap (live_query world) same ∙ none in
          rw is (rest world none ∙ sym (ap (first_by world moment left) dead))
      by false is rest = rw is (kept (live_query world moment.query) rest)

  behind_is : (world : World) (query : Registration) (t : ℕ) (left : List Moment)
      → worked (after_report world query t) (moments_behind world query t left) ≡ worked (after_report world query t) left
  behind_is world query t left = by (is_overfull world query t)
    where
      after : Bool → World
      after b =
          if b then record world { queries = without query.name world.queries }
          else record world { queries = map (query_after_report world t query.name) world.queries }

      moments : Bool → List Moment
      moments b = if b then filter (λ (moment : Moment). not (bytes_eq moment.query query.name)) left else left

      by : (b : Bool) → worked (after b) (moments b) ≡ worked (after b) left
      by true = struck query.name left (record world { queries = without query.name world.queries }) (gone query.name world.queries)
      by false = refl

  -- they are the report of the next step, and what it leaves worked off
  worked_step : (world : World) (left : List Moment) (step : ReportStep) → next_step world left ≡ Some step
      → worked world left ≡ adds step.report step.work (worked step.after step.left)
  worked_step world [] step is = cc
  worked_step world (moment ∷ left) step is = by (live_query world moment.query) is (worked_step world left step)
    where
      by : (query : Option Query) → step_of world moment left query ≡ Some step
          → (next_step world left ≡ Some step → worked world left ≡ adds step.report step.work (worked step.after step.left))
          → first_by world moment left query ≡ adds step.report step.work (worked step.after step.left)
      by None next later = later next
      by (Some query) next later =
          let same = step_same _ step next in
          ap (adds (report_of world query moment.at) (work_of_report world query moment.at)) (sym (behind_is world query.registration moment.at left))
          ∙ ap (λ (s : ReportStep). adds s.report s.work (worked s.after s.left)) same

-- ---- reports, and the world behind them

reports_are : (world : World) (left : List Moment) → reports world left ≡ worked (λ _. []) (λ report work others. report ∷ others) world left
reports_are world [] = refl
reports_are world (moment ∷ left) = by (live_query world moment.query) (λ other. reports_are other left)
  where
    by : (query : Option Query)
        → ((other : World) → reports other left ≡ worked (λ _. []) (λ report work others. report ∷ others) other left)
        → option_map_or
        (λ (query : Query). report_of world query moment.at ∷ reports (after_report world query.registration moment.at) left) query (reports world left)
        ≡ first_by (λ _. []) (λ report work others. report ∷ others) world moment left query
    by None rest = rest world
    by (Some query) rest =
        ap (λ others. report_of world query moment.at ∷ others) (rest (after_report world query.registration moment.at))

world_is : (world : World) (left : List Moment) → world_behind world left ≡ worked (λ after. after) (λ report work after. after) world left
world_is world [] = refl
world_is world (moment ∷ left) = by (live_query world moment.query) (λ other. world_is other left)
  where
    by : (query : Option Query)
        → ((other : World) → world_behind other left ≡ worked (λ after. after) (λ report work after. after) other left)
        → option_map_or (λ (query : Query). world_behind (after_report world query.registration moment.at) left) query (world_behind world left)
        ≡ first_by (λ after. after) (λ report work after. after) world moment left query
    by None rest = rest world
    by (Some query) rest = rest (after_report world query.registration moment.at)

work_is : (world : World) (left : List Moment) → work_of_reports world left ≡ worked (λ _. 0) (λ report work more. work + more) world left
work_is world [] = refl
work_is world (moment ∷ left) = by (live_query world moment.query) (λ other. work_is other left)
  where
    by : (query : Option Query)
        → ((other : World) → work_of_reports other left ≡ worked (λ _. 0) (λ report work more. work + more) other left)
        → option_map_or
        (λ (query : Query).
        work_of_report world query moment.at + work_of_reports (after_report world query.registration moment.at) left)
        query (work_of_reports world left)
        ≡ first_by (λ _. 0) (λ report work more. work + more) world moment left query
    by None rest = rest world
    by (Some query) rest =
        ap (λ more. work_of_report world query moment.at + more) (rest (after_report world query.registration moment.at))

pub reports_step : (world : World) (left : List Moment) (step : ReportStep) → next_step world left ≡ Some step
    → reports world left ≡ step.report ∷ reports step.after step.left
reports_step world left step is =
    reports_are world left
    ∙ (worked_step (λ _. []) (λ report work others. report ∷ others) world left step is
    ∙ ap (λ others. step.report ∷ others) (sym (reports_are step.after step.left)))

pub world_step : (world : World) (left : List Moment) (step : ReportStep) → next_step world left ≡ Some step
    → world_behind world left ≡ world_behind step.after step.left
world_step world left step is =
    world_is world left
    ∙ (worked_step (λ after. after) (λ report work after. after) world left step is ∙ sym (world_is step.after step.left))

pub work_step : (world : World) (left : List Moment) (step : ReportStep) → next_step world left ≡ Some step
    → work_of_reports world left ≡ step.work + work_of_reports step.after step.left
work_step world left step is =
    work_is world left
    ∙ (worked_step (λ _. 0) (λ report work more. work + more) world left step is
    ∙ ap (λ more. step.work + more) (sym (work_is step.after step.left)))

-- what the next report may take is a part of that
pub work_next : (world : World) (left : List Moment) (step : ReportStep) → next_step world left ≡ Some step
    → next_work world left ≡ step.work
work_next world left step is = rw is refl

pub work_part : (world : World) (left : List Moment) → next_work world left ≤ work_of_reports world left
work_part world left = by (next_step world left) refl
  where
    by : (step : Option ReportStep) → next_step world left ≡ step → next_work world left ≤ work_of_reports world left
    by None is = rw is (omega arith)
    by (Some step) is =
        let next = work_next world left step is in
        let all = work_step world left step is in
        omega (arith, next, all)
