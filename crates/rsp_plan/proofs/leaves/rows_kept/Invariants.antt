use Rattle.std.proofs.Common.{◌≡◌, ◌+ℤ◌, drop}
use Rattle.rsp_multiset.specs.Rows.{Cells, row_eq}
use Rattle.rsp_multiset.specs.Shown.{shown_row, weight_shown}
use Rattle.rsp_multiset.specs.Weights.{times}
use Rattle.rsp_terms.specs.declared.term.Term.{Term}
use Rattle.rsp_terms.specs.Same.{term_eq}
use Rattle.rsp_operators.specs.Laws.{AnswersFit, IsShownAlike}
use Rattle.rsp_plan.proofs.leaves.rows_kept.Given as goal

abbrev pub invariant-loop-row : goal.invariant-loop-row
invariant-loop-row g l =
    ((v : g.row.D-Value.Denot) → g.D.Domain.knows l.initial.domain v → IsShownAlike (g.D.Domain.shown l.initial.domain) (g.D.Domain.knows l.domain) (g.D.Domain.shown l.domain) v)
    × AnswersFit g.D.Value.PartialEq.eq l.width (g.D.Domain.knows l.domain) l.net
    × ((q : Cells Term) → weight_shown (row_eq term_eq) (shown_row (g.D.Domain.shown l.domain)) l.net q +ℤ times (row_eq term_eq) (drop l.row-index l.rows) q
    ≡ times (row_eq term_eq) l.rows q)
