use Rattle.std.proofs.Common.{◌≡◌, ◌+ℤ◌, ℤ, pos, List, Option, drop}
use Rattle.std.specs.List.{AllByRecursion}
use Rattle.rsp_multiset.specs.Rows.{Cells, row_eq}
use Rattle.rsp_multiset.specs.Shown.{shown_row, weight_shown, IsKnown}
use Rattle.rsp_multiset.specs.Variables.{extension}
use Rattle.rsp_multiset.specs.Weights.{only, total, AreChanges}
use Rattle.rsp_terms.specs.declared.term.Term.{Term}
use Rattle.rsp_terms.specs.Same.{term_eq}
use Rattle.rsp_operators.specs.Laws.{AnswersFit, IsShownAlike}
use Rattle.rsp_simple_operators.proofs.extending.extended.Given as goal

abbrev pub invariant-loop-index : goal.invariant-loop-index
invariant-loop-index g l =
    AreChanges (row_eq g.D.Value.PartialEq.eq) l.net
    × ((v : g.row.D-Value.Denot) → g.D.Domain.knows l.initial.domain v → IsShownAlike (g.D.Domain.shown l.initial.domain) (g.D.Domain.knows l.domain) (g.D.Domain.shown l.domain) v)
    × AnswersFit g.D.Value.PartialEq.eq l.width (g.D.Domain.knows l.domain) l.net
    × AllByRecursion (λ (e : List (Option g.row.D-Value.Denot) × ℤ). IsKnown (g.D.Domain.knows l.initial.domain) e.0) (drop l.index l.change)
    × ((q : Cells Term) → weight_shown (row_eq term_eq) (shown_row (g.D.Domain.shown l.domain)) l.net q
    +ℤ total (λ row. only (row_eq term_eq q (extension l.width l.variable (g.E.Computed.of l.computed (shown_row (g.D.Domain.shown l.initial.domain) row)) (shown_row (g.D.Domain.shown l.initial.domain) row))) (pos 1)) (drop l.index l.change)
    ≡ total (λ row. only (row_eq term_eq q (extension l.width l.variable (g.E.Computed.of l.computed (shown_row (g.D.Domain.shown l.initial.domain) row)) (shown_row (g.D.Domain.shown l.initial.domain) row))) (pos 1)) l.change)
