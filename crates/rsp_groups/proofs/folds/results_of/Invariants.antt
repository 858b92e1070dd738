use Rattle.std.proofs.Common.{◌≡◌, ◌++◌, List, map, drop}
use Rattle.std.specs.Prelude.{Option}
use Rattle.std.specs.List.{AllZip}
use Rattle.rsp_terms.specs.declared.term.Term.{Term}
use Rattle.rsp_groups.specs.Moves.{results_over}
use Rattle.rsp_groups.proofs.folds.results_of.Given as goal

abbrev pub invariant-loop-fold : goal.invariant-loop-fold
invariant-loop-fold g l =
    (lists : List (List (Option Term))) → AllZip g.F.Fold.stands l.folds lists
    → l.results.items ++ results_over (map g.F.Fold.aggregate (drop l.fold-index l.folds)) (drop l.fold-index lists)
    ≡ results_over (map g.F.Fold.aggregate l.folds) lists
