use Rattle.std.proofs.Common.{◌≡◌, ◌++◌, map, drop}
use Rattle.rsp_numbering.specs.Naming.{variable_text}
use Rattle.rsp_numbering.proofs.before.texts_of.Given as goal

abbrev pub invariant-loop-variable : goal.invariant-loop-variable
invariant-loop-variable l =
    l.texts.items ++ map variable_text (drop l.variable-index l.variables) ≡ map variable_text l.variables
