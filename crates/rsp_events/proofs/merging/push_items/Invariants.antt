use Rattle.std.proofs.Common.{◌≡◌, ◌++◌, ◌<◌, ◌^◌, filter}
use Rattle.std.specs.List.{AllByRecursion}
use Rattle.rsp_events.specs.Merged.{item_time}
use Rattle.rsp_events.specs.Sorting.{is_item}
use Rattle.rsp_events.proofs.merging.push_items.Given as goal

abbrev pub invariant-loop-event : goal.invariant-loop-event
invariant-loop-event l = record {
  value : l.items.items ++ filter is_item l.event-iterator.rest.items ≡ l.initial.items.items ++ filter is_item l.fn.events;
  low : AllByRecursion (λ item. item_time item < 2 ^ 64) l.initial.items.items → AllByRecursion (λ item. item_time item < 2 ^ 64) l.items.items;
}
