use Rattle.std.proofs.Common.{◌-◌, ◌+◌, length}
use Rattle.rsp_spec.specs.Limits.{most_file_bytes}
use Rattle.rsp_modes.specs.Shelves.{shelf_seen}
use Rattle.rsp_modes.specs.Readings.{Takes}
use Rattle.rsp_modes.proofs.reading.read_picked.Given as goal

abbrev pub invariant-reads : goal.invariant-reads
invariant-reads g l =
    Takes
    (shelf_seen (g.H.Source.files l.initial.shelf) (g.H.Source.seen l.initial.shelf))
    (shelf_seen (g.H.Source.files l.shelf) (g.H.Source.seen l.shelf))
    l.bytes.items

abbrev pub decreases-reads : goal.decreases-reads
decreases-reads g l = most_file_bytes + 1 - length l.bytes.items
