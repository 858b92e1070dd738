use Rattle.std.proofs.Common.{◌≡◌, Some, subst, sym}
use Rattle.rsp_number.specs.declared.number.Number.{Number}
use Rattle.rsp_expr.specs.Forms.{number_of}
use Rattle.rsp_expr.specs.Numerals.{numeral_literal}
use Rattle.rsp_literals.proofs.ReadBack.{integer_read_back, decimal_read_back}
use Rattle.rsp_operands.proofs.operand.read_back.Goals as goal

pub returns-in-Integer-clause-read : goal.returns-in-Integer-clause-read
returns-in-Integer-clause-read c =
    let P : Number → Type 0 = λ n. number_of (numeral_literal n) ≡ Some n in
    subst P (sym c.in-Integer.is) (integer_read_back c.in-Integer.integer c.value-in_range.ensures.range)

pub returns-in-Decimal-clause-read : goal.returns-in-Decimal-clause-read
returns-in-Decimal-clause-read c =
    let P : Number → Type 0 = λ n. number_of (numeral_literal n) ≡ Some n in
    subst P (sym c.in-Decimal.is) (decimal_read_back c.in-Decimal.decimal c.scale-in_range.ensures.decimal)
