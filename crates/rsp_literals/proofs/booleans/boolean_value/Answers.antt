use Rattle.std.proofs.Common.{rules}
use Rattle.rsp_expr.proofs.TypeLaws.{value_is}
use Rattle.rsp_literals.proofs.booleans.boolean_value.Goals as goal

pub returns-in-Literal : goal.returns-in-Literal
returns-in-Literal c = search (rules, value_is c.in-Literal.datatype c.in-Literal.lexical)
