use Rattle.std.proofs.Common.{◌≡◌, ◌+◌, map, drop}
use Rattle.rsp_written.specs.Building.{ways_in}
use Rattle.rsp_written.specs.Meanings.{way_of}
use Rattle.rsp_numbering.specs.Counting.{slashes_among, slashes_following}
use Rattle.rsp_numbering.proofs.counts.+slashes.Given as goal

abbrev pub invariant-slashes_among-loop-path : goal.invariant-slashes_among-loop-path
invariant-slashes_among-loop-path l =
    l.count + slashes_among (ways_in (map way_of (drop l.path-index l.paths))) ≡ slashes_among (ways_in (map way_of l.paths))

abbrev pub invariant-slashes_following-loop-path : goal.invariant-slashes_following-loop-path
invariant-slashes_following-loop-path l =
    l.count + slashes_following (ways_in (map way_of (drop l.path-index l.paths)))
    ≡ slashes_following (ways_in (map way_of l.paths))
