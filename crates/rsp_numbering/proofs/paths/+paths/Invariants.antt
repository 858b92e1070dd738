use Rattle.std.proofs.Common.{◌≡◌, ◌++◌, map, drop}
use Rattle.rsp_query.specs.Meanings.{way_of}
use Rattle.rsp_written.specs.Building.{ways_in}
use Rattle.rsp_written.specs.Meanings as written
use Rattle.rsp_numbering.specs.Triples.{paths_of}
use Rattle.rsp_numbering.proofs.paths.+paths.Given as goal

abbrev pub invariant-paths_of-loop-path : goal.invariant-paths_of-loop-path
invariant-paths_of-loop-path l =
    map way_of l.made.items ++ paths_of (ways_in (map written.way_of (drop l.path-index l.paths)))
    ≡ paths_of (ways_in (map written.way_of l.paths))
