use Rattle.std.proofs.Common.{◌≡◌, length, arith}
use Rattle.std.specs.Vec.Iter.{into_iter_items}
use Rattle.rsp_multiset.specs.Rows.{row_eq}
use Rattle.rsp_groups.proofs.Walking.{first-more, none-more}
use Rattle.rsp_groups.proofs.rows.count_rows.Goals as goal

pub loop-row-preserved : goal.loop-row-preserved
loop-row-preserved g c = λ q. first-more (row_eq g.V.PartialEq.eq) _ _ _ _ _ _ q c.in-Some.ensures.steps.0 (c.in_ok-alter.ensures.ok q) (c.loop-row.invariant q)

pub returns : goal.returns
returns g c = λ q.
    let none : length (into_iter_items c.loop-row.row-iterator) ≡ 0 = omega (arith, c.loop-row.row-iterator.rest.ok.0, c.in-None.ensures.steps.0) in
    none-more (row_eq g.V.PartialEq.eq) (into_iter_items c.loop-row.row-iterator) _ _ q none (c.loop-row.invariant q)
