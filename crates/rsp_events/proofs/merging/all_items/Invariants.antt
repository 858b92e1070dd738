use Rattle.std.proofs.Common.{◌≡◌, ◌++◌, ◌<◌, ◌^◌}
use Rattle.std.specs.List.{AllByRecursion}
use Rattle.rsp_events.specs.Merged.{item_time}
use Rattle.rsp_events.specs.Sorting.{all_items}
use Rattle.rsp_events.proofs.merging.all_items.Given as goal

abbrev pub invariant-loop-events : goal.invariant-loop-events
invariant-loop-events l = record {
  value : l.items.items ++ all_items l.events-iterator.rest.items ≡ all_items l.fn.lists;
  low : AllByRecursion (λ item. item_time item < 2 ^ 64) l.items.items;
}
