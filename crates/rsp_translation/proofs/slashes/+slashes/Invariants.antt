use Rattle.std.proofs.Common.{◌≡◌, ◌+◌, map, drop}
use Rattle.rsp_query.specs.Paths.{ways_in}
use Rattle.rsp_query.specs.Meanings.{way_of}
use Rattle.rsp_query.specs.Paths as paths
use Rattle.rsp_translation.proofs.slashes.+slashes.Given as goal

abbrev pub invariant-slashes_among-loop-part : goal.invariant-slashes_among-loop-part
invariant-slashes_among-loop-part l =
    l.number + paths.slashes_among (ways_in (map way_of (drop l.part-index l.parts)))
    ≡ paths.slashes_among (ways_in (map way_of l.parts))

abbrev pub invariant-slashes_following-loop-part : goal.invariant-slashes_following-loop-part
invariant-slashes_following-loop-part l =
    l.number + paths.slashes_following (ways_in (map way_of (drop l.part-index l.parts)))
    ≡ paths.slashes_following (ways_in (map way_of l.parts))
