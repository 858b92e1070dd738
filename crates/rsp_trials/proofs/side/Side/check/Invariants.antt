use Rattle.std.proofs.Common.{ℤ, pos, ◌≤ℤ◌, ◌+ℤ◌, drop}
use Rattle.std.specs.List.{AllByRecursion}
use Rattle.rsp_multiset.specs.Rows.{Cells, row_eq}
use Rattle.rsp_multiset.specs.Weights.{weight}
use Rattle.rsp_terms.specs.declared.term.Term.{Term}
use Rattle.rsp_terms.specs.Same.{term_eq}
use Rattle.rsp_operators.specs.Laws.{Fits}
use Rattle.rsp_trials.proofs.side.Side.check.Given as goal

abbrev pub invariant-loop-index : goal.invariant-loop-index
invariant-loop-index l =
    AllByRecursion (λ (e : Cells Term × ℤ). Fits l.self.width l.self.key.items e.0 × (pos 0 ≤ℤ (weight (row_eq term_eq) l.self.rows e.0 +ℤ weight (row_eq term_eq) l.change e.0))) (drop l.index l.change)
    → AllByRecursion (λ (e : Cells Term × ℤ). Fits l.self.width l.self.key.items e.0 × (pos 0 ≤ℤ (weight (row_eq term_eq) l.self.rows e.0 +ℤ weight (row_eq term_eq) l.change e.0))) l.change
