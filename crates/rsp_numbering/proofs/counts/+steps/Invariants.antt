use Rattle.std.proofs.Common.{◌≡◌, ◌+◌, map, drop}
use Rattle.rsp_written.specs.Building.{ways_in}
use Rattle.rsp_written.specs.Meanings.{way_of}
use Rattle.rsp_numbering.specs.Counting.{steps_among}
use Rattle.rsp_numbering.proofs.counts.+steps.Given as goal

abbrev pub invariant-steps_among-loop-path : goal.invariant-steps_among-loop-path
invariant-steps_among-loop-path l =
    l.count + steps_among (ways_in (map way_of (drop l.path-index l.paths))) ≡ steps_among (ways_in (map way_of l.paths))
