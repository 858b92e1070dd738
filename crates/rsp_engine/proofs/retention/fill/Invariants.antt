use Rattle.std.proofs.Common.{◌≡◌, All, length, take}
use Rattle.rsp_scope.specs.Ends.{as_accepted, AreEnds}
use Rattle.rsp_scope.specs.declared.item.Item.{Item}
use Rattle.rsp_engine.specs.Keeping.{EndsBy, watches_by}
use Rattle.rsp_engine.proofs.retention.fill.Given as goal

abbrev pub invariant-loop-index : goal.invariant-loop-index
invariant-loop-index g l =
    record {
      ends : All (λ (item : Item). EndsBy (watches_by l.queries) (as_accepted item) item.end) l.streams.items
          → AreEnds (watches_by l.queries) (take l.index l.streams.items) l.ends.items;
      many : length l.ends.items ≡ l.index;
      room : l.ends.cap ≡ l.initial.ends.cap;
    }
