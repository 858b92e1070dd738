use Rattle.std.proofs.Common.{rules, ap, sym}
use Rattle.rsp_expr.proofs.TypeLaws.{reading_is}
use Rattle.rsp_expr.specs.Forms.{value_in}
use Rattle.rsp_literals.proofs.forms.number_of.Goals as goal

pub returns-in-Literal : goal.returns-in-Literal
returns-in-Literal c = search (rules, sym (ap value_in (reading_is c.in-Literal.datatype c.in-Literal.lexical)))
