use Rattle.std.proofs.Common.{◌≡◌, ◌+ℤ◌, List, map, drop}
use Rattle.std.specs.Prelude.{Option}
use Rattle.rsp_multiset.specs.Rows.{row_eq}
use Rattle.rsp_multiset.specs.Weights.{weight, times}
use Rattle.rsp_groups.proofs.touching.touched_keys.Given as goal

abbrev pub invariant-loop-entry : goal.invariant-loop-entry
invariant-loop-entry g l =
    (q : List (Option g.row.V.Denot)) → weight (row_eq g.V.PartialEq.eq) l.keys q +ℤ times (row_eq g.V.PartialEq.eq) (map (λ e. e.key) (drop l.entry-index l.entries)) q
    ≡ times (row_eq g.V.PartialEq.eq) (map (λ e. e.key) l.entries) q
