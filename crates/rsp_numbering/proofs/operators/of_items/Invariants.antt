use Rattle.std.proofs.Common.{◌≡◌, ◌+◌, map, drop}
use Rattle.std.specs.List.{fold}
use Rattle.std.specs.Prelude.{sum_by}
use Rattle.rsp_written.specs.GroupMeanings as written
use Rattle.rsp_numbering.specs.Operators.{item_operators}
use Rattle.rsp_numbering.proofs.operators.of_items.Given as goal

abbrev pub invariant-loop-item : goal.invariant-loop-item
invariant-loop-item l =
    fold (λ count item. count + item_operators item) l.count (map written.item_of (drop l.item-index l.items))
    ≡ sum_by item_operators (map written.item_of l.items)
