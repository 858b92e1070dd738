use Rattle.std.proofs.Common.{◌≡◌, ◌++◌, Some, true, map, drop}
use Rattle.std.specs.Option.{option_map}
use Rattle.rsp_expr.specs.Booleans.{truth_of}
use Rattle.rsp_expr.specs.Errors.{first_value, all_values}
use Rattle.rsp_operands.specs.Operands.{term_for}
use Rattle.rsp_values.specs.Parts.{connected, connection, undecided, argument_values, membership_of}
use Rattle.rsp_values.proofs.evaluation.+evaluation.Given as goal

abbrev pub invariant-connected-loop-part : goal.invariant-connected-loop-part
invariant-connected-loop-part g l =
    connection l.deciding (undecided l.deciding l.erred)
    (connected l.deciding (map truth_of (argument_values (drop l.part-index l.parts) (g.R.ReadRow.cells l.row))))
    ≡ connected l.deciding (map truth_of (argument_values l.parts (g.R.ReadRow.cells l.row)))

abbrev pub invariant-among-loop-other : goal.invariant-among-loop-other
invariant-among-loop-other g l =
    connection true (undecided true l.erred)
    (membership_of (Some (term_for l.item)) (argument_values (drop l.other-index l.list) (g.R.ReadRow.cells l.row)))
    ≡ membership_of (Some (term_for l.item)) (argument_values l.list (g.R.ReadRow.cells l.row))

abbrev pub invariant-first_value-loop-argument : goal.invariant-first_value-loop-argument
invariant-first_value-loop-argument g l =
    first_value (argument_values (drop l.argument-index l.arguments) (g.R.ReadRow.cells l.row)) ≡ first_value (argument_values l.arguments (g.R.ReadRow.cells l.row))

abbrev pub invariant-operands-loop-argument : goal.invariant-operands-loop-argument
invariant-operands-loop-argument g l =
    option_map
    (λ others. map term_for l.parts.items ++ others)
    (all_values (argument_values (drop l.argument-index l.arguments) (g.R.ReadRow.cells l.row)))
    ≡ all_values (argument_values l.arguments (g.R.ReadRow.cells l.row))
