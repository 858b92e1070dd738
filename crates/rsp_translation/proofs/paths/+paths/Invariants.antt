use Rattle.std.proofs.Common.{◌≡◌, ◌+◌, ◌*◌, ◌++◌, map, drop, unwrap_or}
use Rattle.std.specs.Option.{option_map}
use Rattle.rsp_expr.specs.declared.slot.Slot.TheVariants.{Variable}
use Rattle.rsp_query.specs.Paths.{ways_in}
use Rattle.rsp_query.specs.Meanings.{way_of}
use Rattle.rsp_algebra.specs.Meanings.{node_of}
use Rattle.rsp_translation.specs.Paths as paths
use Rattle.rsp_translation.proofs.paths.+paths.Given as goal

abbrev pub invariant-steps-loop-index : goal.invariant-steps-loop-index
invariant-steps-loop-index l =
    map node_of l.trees.items ++ paths.steps l.place l.next (unwrap_or (option_map Variable l.before) l.subject) (ways_in (map way_of (drop l.index l.parts))) l.object
    ≡ paths.steps l.place l.fresh l.subject (ways_in (map way_of l.parts)) l.object

abbrev pub invariant-choices-loop-part : goal.invariant-choices-loop-part
invariant-choices-loop-part l =
    map node_of l.trees.items ++ paths.choices l.place l.next l.subject (ways_in (map way_of (drop l.part-index l.parts))) l.object
    ≡ paths.choices l.place l.fresh l.subject (ways_in (map way_of l.parts)) l.object

abbrev pub decreases-path_tree : goal.decreases-path_tree
decreases-path_tree l = 4 * goal.size-path_tree l

abbrev pub decreases-steps : goal.decreases-steps
decreases-steps l = 4 * goal.size-steps l + 2

abbrev pub decreases-step : goal.decreases-step
decreases-step l = 4 * goal.size-step l + 1

abbrev pub decreases-choices : goal.decreases-choices
decreases-choices l = 4 * goal.size-choices l + 1
