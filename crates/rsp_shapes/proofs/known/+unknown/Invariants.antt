use Rattle.std.proofs.Common.{◌≡◌, ◌+◌, ◌*◌, map, drop}
use Rattle.rsp_expr.specs.Formulas.{formulas_in}
use Rattle.rsp_expr.specs.Meanings.{formula_of}
use Rattle.rsp_shapes.specs.Groups.{stranger}
use Rattle.rsp_shapes.specs.Seeing.{first_among}
use Rattle.rsp_shapes.proofs.known.+unknown.Given as goal

abbrev pub invariant-first_unknown_among-loop-expression : goal.invariant-first_unknown_among-loop-expression
invariant-first_unknown_among-loop-expression l =
    first_among (stranger l.known) (formulas_in (map formula_of (drop l.expression-index l.expressions)))
    ≡ first_among (stranger l.known) (formulas_in (map formula_of l.expressions))
