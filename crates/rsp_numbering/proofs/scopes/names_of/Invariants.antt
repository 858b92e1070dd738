use Rattle.std.proofs.Common.{◌≡◌, ℕ, List, ◌||◌, map, drop}
use Rattle.std.specs.List.{list_any}
use Rattle.std.specs.Str.{bytes_eq}
use Rattle.rsp_written.specs.GroupMeanings.{item_of}
use Rattle.rsp_numbering.specs.Naming.{is_shown}
use Rattle.rsp_numbering.proofs.scopes.names_of.Given as goal

abbrev pub invariant-loop-item : goal.invariant-loop-item
invariant-loop-item l = (x : List ℕ)
    → (list_any (bytes_eq x) l.shown.keys || is_shown (map item_of (drop l.item-index l.items)) x) ≡ is_shown (map item_of l.items) x
