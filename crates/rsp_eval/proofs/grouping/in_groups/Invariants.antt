use Rattle.std.proofs.Common.{◌≡◌, ◌++◌}
use Rattle.std.specs.Vec.Iter.{into_iter_items}
use Rattle.rsp_multiset.specs.Rows.{Cells}
use Rattle.rsp_terms.specs.declared.term.Term.{Term}
use Rattle.rsp_algebra.specs.Solutions.{group_of}
use Rattle.rsp_eval.specs.Keys.{bucket_of}
use Rattle.rsp_eval.proofs.grouping.in_groups.Given as goal

abbrev pub invariant-loop-row : goal.invariant-loop-row
invariant-loop-row l =
    (q : Cells Term)
    → bucket_of l.buckets q ++ group_of l.width l.keys (into_iter_items l.row-iterator) q
    ≡ group_of l.width l.keys l.fn.rows.items q
