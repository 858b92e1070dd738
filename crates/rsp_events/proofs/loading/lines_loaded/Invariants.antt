use Rattle.std.proofs.Common.{◌≡◌, ◌++◌, length}
use Rattle.rsp_events.specs.FileLines.{lines_from, quads, refused_quads, loaded_by}
use Rattle.rsp_events.proofs.loading.lines_loaded.Given as goal

abbrev pub invariant-lines : goal.invariant-lines
invariant-lines l =
    (l.read.quads ++ quads l.document (lines_from l.number l.rest) ≡ (loaded_by l.document l.bytes).quads)
    × (l.read.refused ++ refused_quads l.document (lines_from l.number l.rest) ≡ (loaded_by l.document l.bytes).refused)

abbrev pub decreases-lines : goal.decreases-lines
decreases-lines l = length l.rest
