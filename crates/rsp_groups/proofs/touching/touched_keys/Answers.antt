use Rattle.rsp_multiset.specs.Rows.{row_eq}
use Rattle.rsp_groups.proofs.Walking.{item-here, key-next, key-end}
use Rattle.rsp_groups.proofs.touching.touched_keys.Goals as goal

pub loop-entry-preserved : goal.loop-entry-preserved
loop-entry-preserved g c = λ q.
    key-next (row_eq g.V.PartialEq.eq) (λ e. e.key) c.args.entries.now c.loop-entry.entry-index c.entry-item.result c.in_ok-share.field-0 _ _ _ q
    (item-here c.args.entries.now c.loop-entry.entry-index c.entry-item.result c.loop-entry-test.true c.entry-item.is)
    c.in_ok-share.ensures (c.in_ok-alter.ensures.ok q) (c.loop-entry.invariant q)

pub returns : goal.returns
returns g c = λ q. key-end (row_eq g.V.PartialEq.eq) (λ e. e.key) c.args.entries.now c.loop-entry.entry-index _ _ q c.loop-entry-test.false (c.loop-entry.invariant q)
