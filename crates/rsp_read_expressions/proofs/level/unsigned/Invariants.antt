use Rattle.std.proofs.Common.{◌≡◌, ◌∷◌, ◌++◌, map}
use Rattle.std.specs.Vec.Iter.{into_iter_items}
use Rattle.rsp_written.specs.Building.{parts_of}
use Rattle.rsp_written.specs.Meanings.{expr_of, operand_of}
use Rattle.rsp_read_expressions.proofs.level.unsigned.Given as goal

abbrev pub invariant-loop-operand : goal.invariant-loop-operand
invariant-loop-operand l =
    map expr_of l.parts.items ++ parts_of (map operand_of (into_iter_items l.operand-iterator))
    ≡ expr_of l.fn.first ∷ parts_of (map operand_of l.fn.rest.items)
