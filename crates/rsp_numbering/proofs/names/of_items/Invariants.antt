use Rattle.std.proofs.Common.{◌≡◌, map, drop}
use Rattle.rsp_written.specs.GroupMeanings.{item_of}
use Rattle.rsp_numbering.specs.Seeing.{scopes_of}
use Rattle.rsp_numbering.specs.SelectionSteps.{behind_items}
use Rattle.rsp_numbering.proofs.names.of_items.Given as goal

abbrev pub invariant-loop-item : goal.invariant-loop-item
invariant-loop-item l =
    behind_items (scopes_of l.at) l.before (map item_of (drop l.item-index l.items))
    ≡ behind_items (scopes_of l.at) l.fn.before (map item_of l.items)
