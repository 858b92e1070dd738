use Rattle.std.proofs.Common.{◌≡◌, ◌++◌, List, length}
use Rattle.rsp_events.specs.declared.event.Block.{Block}
use Rattle.rsp_events.specs.Reader.{Reader}
use Rattle.rsp_events.specs.Steps.{Reads}
use Rattle.rsp_events.proofs.blocks.read_piece.Given as goal

abbrev pub invariant-lines : goal.invariant-lines
invariant-lines l =
    (l.blocks.document ≡ l.initial.blocks.document)
    × ((new : Reader) (more : List Block) → Reads l.blocks l.rest new more → Reads l.initial.blocks l.piece new (l.given ++ more))

abbrev pub decreases-lines : goal.decreases-lines
decreases-lines l = length l.rest
