use Rattle.std.proofs.Common.{◌≡◌, ◌++◌, map, drop}
use Rattle.rsp_query.specs.Meanings as query
use Rattle.rsp_written.specs.GroupMeanings as written
use Rattle.rsp_numbering.specs.Seeing.{aggregations_of, scopes_of}
use Rattle.rsp_numbering.specs.SelectionSteps.{behind_items, items_of, with_items_aggregates}
use Rattle.rsp_numbering.proofs.items.items_of.Given as goal

abbrev pub invariant-loop-item : goal.invariant-loop-item
invariant-loop-item l = record {
  items : map query.item_of l.made.items ++ items_of (scopes_of l.at) l.before (map written.item_of (drop l.item-index l.items))
      ≡ items_of (scopes_of l.at) l.fn.before (map written.item_of l.items);
  behind : behind_items (scopes_of l.at) l.before (map written.item_of (drop l.item-index l.items))
      ≡ behind_items (scopes_of l.at) l.fn.before (map written.item_of l.items);
  aggregates : with_items_aggregates (scopes_of l.at) l.before (aggregations_of l.aggregates.items) (map written.item_of (drop l.item-index l.items))
      ≡ with_items_aggregates (scopes_of l.at) l.fn.before (aggregations_of l.fn.aggregates.items) (map written.item_of l.items);
}
