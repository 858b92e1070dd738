use Rattle.std.proofs.Common.{◌≡◌, List, length, map}
use Rattle.std.specs.Prelude.{Option}
use Rattle.std.specs.List.{AllZip}
use Rattle.rsp_terms.specs.declared.term.Term.{Term}
use Rattle.rsp_groups.specs.Moves.{AllMoved, AreShort}
use Rattle.rsp_groups.proofs.Moving.{mixed}
use Rattle.rsp_groups.proofs.folds.move_values.Given as goal

abbrev pub invariant-loop-place : goal.invariant-loop-place
invariant-loop-place g l =
    (length l.folds.items ≡ length l.initial.folds.items)
    × (map g.F.Fold.aggregate l.folds.items ≡ map g.F.Fold.aggregate l.initial.folds.items)
    × ((befores afters : List (List (Option Term))) → AllMoved l.out l.times l.values befores afters → AreShort afters
    → AllZip g.F.Fold.stands l.initial.folds.items befores → AllZip g.F.Fold.stands l.folds.items (mixed l.place afters befores))
