use Rattle.std.proofs.Common.{◌≡◌, drop}
use Rattle.rsp_translation.specs.Trees as trees
use Rattle.rsp_translation.proofs.values.value_for.Given as goal

abbrev pub invariant-loop-index : goal.invariant-loop-index
invariant-loop-index l =
    trees.value_for (drop l.index l.variables) (drop l.index l.cells) l.variable ≡ trees.value_for l.variables l.cells l.variable
