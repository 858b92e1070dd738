-- Counts of what is said.
use Rattle.std.proofs.Common.{◌≡◌, ℕ, ◌+◌, cond, List, [], ◌∷◌, ◌++◌, arith}
use Rattle.std.proofs.lemmas.List.Sums.{sum_by-append}
use Rattle.rsp_engine.specs.declared.report.Report.{Report}
use Rattle.rsp_modes.specs.declared.voice.Tally.{Tally}
use Rattle.rsp_modes.specs.declared.refusals.Place.{Place}
use Rattle.rsp_modes.specs.Output.{Saying, a_refusal, a_report}
use Rattle.rsp_modes.specs.Refusals.{Reason}
use Rattle.rsp_modes.specs.Summaries.{is_report, rows_in, rows_said}
use Rattle.rsp_modes.specs.Tallies.{Counts}

one_and_one : (before mid now a b all : ℕ) → mid ≡ before + a → now ≡ mid + b → all ≡ a + b → now ≡ before + all
one_and_one before mid now a b all first second is = omega (arith, first, second, is)

pub counts_none : (tally : Tally) → Counts tally tally []
counts_none tally = record { reports = omega arith; rows = omega arith }

pub counts_more : (before mid now : Tally) (xs ys : List Saying) → Counts before mid xs → Counts mid now ys → Counts before now (xs ++ ys)
counts_more before mid now xs ys first second =
    record {
      reports = one_and_one before.reports mid.reports now.reports _ _ _ first.reports second.reports (sum_by-append (λ x. cond (is_report x) 1 0) xs ys);
      rows = one_and_one before.rows mid.rows now.rows _ _ _ first.rows second.rows (sum_by-append rows_said xs ys);
    }

pub counts_report : (before now : Tally) (report : Report) → now.reports ≡ before.reports + 1 → now.rows ≡ before.rows + rows_in report.outcome → Counts before now (a_report report ∷ [])
counts_report before now report reports rows = record { reports = omega (arith, reports); rows = omega (arith, rows) }

pub counts_refusal : (tally : Tally) (place : Place) (reason : Reason) → Counts tally tally (a_refusal place reason ∷ [])
counts_refusal tally place reason = record { reports = omega arith; rows = omega arith }
