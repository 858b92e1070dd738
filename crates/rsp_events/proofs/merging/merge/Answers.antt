use Rattle.std.proofs.Common.{rules}
use Rattle.std.proofs.lemmas.List.Sorted.{answers_always}
use Rattle.rsp_events.specs.Merged.{item_time}
use Rattle.rsp_events.proofs.ByTime.{merged-from_sort, sorted_timed}
use Rattle.rsp_events.proofs.merging.merge.Goals as goal

pub returns-clause-value : goal.returns-clause-value
returns-clause-value c =
    rw c.from_vec.ensures
    (merged-from_sort c.args.lists _ _ c.in_ok-items.ensures.value c.in_ok-items.ensures.low
    (c.in_ok-sort_by_key.ensures.sorted item_time (answers_always _ _ _ (λ f a r g h. search rules)))
    (c.in_ok-sort_by_key.ensures.stable item_time (answers_always _ _ _ (λ f a r g h. search rules))))

pub returns-clause-timed : goal.returns-clause-timed
returns-clause-timed c timed =
    rw c.from_vec.ensures
    (sorted_timed c.args.lists _ _ c.in_ok-items.ensures.value
    (c.in_ok-sort_by_key.ensures.sorted item_time (answers_always _ _ _ (λ f a r g h. search rules)))
    (c.in_ok-sort_by_key.ensures.stable item_time (answers_always _ _ _ (λ f a r g h. search rules))) timed)
