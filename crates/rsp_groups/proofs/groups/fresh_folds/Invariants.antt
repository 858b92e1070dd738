use Rattle.std.proofs.Common.{◌≡◌, [], ◌++◌, map, drop}
use Rattle.std.specs.List.{AllByRecursion}
use Rattle.rsp_groups.proofs.groups.fresh_folds.Given as goal

abbrev pub invariant-loop-aggregate : goal.invariant-loop-aggregate
invariant-loop-aggregate g l =
    AllByRecursion (λ fold. g.F.Fold.stands fold []) l.folds.items
    × (map g.F.Fold.aggregate l.folds.items ++ map (λ a. g.F.Fold.aggregate a.fold) (drop l.aggregate-index l.aggregates)
    ≡ map (λ a. g.F.Fold.aggregate a.fold) l.aggregates)
