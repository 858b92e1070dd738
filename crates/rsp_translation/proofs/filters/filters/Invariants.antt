use Rattle.std.proofs.Common.{◌≡◌, ◌++◌, map, drop}
use Rattle.rsp_expr.specs.Meanings.{formula_of}
use Rattle.rsp_query.specs.Groups.{parts_in}
use Rattle.rsp_query.specs.Meanings.{part_of}
use Rattle.rsp_translation.specs.Begun as trees
use Rattle.rsp_translation.proofs.filters.filters.Given as goal

abbrev pub invariant-loop-element : goal.invariant-loop-element
invariant-loop-element l =
    map formula_of l.conditions.items ++ trees.filters (parts_in (map part_of (drop l.element-index l.body)))
    ≡ trees.filters (parts_in (map part_of l.body))
