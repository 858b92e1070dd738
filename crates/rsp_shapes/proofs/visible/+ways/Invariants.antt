use Rattle.std.proofs.Common.{◌≡◌, map, drop}
use Rattle.rsp_query.specs.Paths.{ways_in}
use Rattle.rsp_query.specs.Meanings.{way_of}
use Rattle.rsp_shapes.specs.Visible.{is_in_ways}
use Rattle.rsp_shapes.proofs.visible.+ways.Given as goal

abbrev pub invariant-is_in_paths-loop-path : goal.invariant-is_in_paths-loop-path
invariant-is_in_paths-loop-path l =
    is_in_ways (ways_in (map way_of (drop l.path-index l.paths))) l.variable ≡ is_in_ways (ways_in (map way_of l.paths)) l.variable
