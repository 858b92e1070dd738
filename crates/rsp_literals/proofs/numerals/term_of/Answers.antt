use Rattle.rsp_literals.proofs.ReadBack.{integer_read_back, decimal_read_back, made_reads}
use Rattle.rsp_literals.proofs.numerals.term_of.Goals as goal

pub returns-in-Integer-clause-read_back : goal.returns-in-Integer-clause-read_back
returns-in-Integer-clause-read_back c =
    made_reads _ _ _ c.in-Integer.is (integer_read_back _ c.integer_term.ensures.range) c.integer_term.ensures.literal

pub returns-in-Decimal-clause-read_back : goal.returns-in-Decimal-clause-read_back
returns-in-Decimal-clause-read_back c =
    made_reads _ _ _ c.in-Decimal.is (decimal_read_back c.in-Decimal.decimal c.decimal_term.ensures.decimal) c.decimal_term.ensures.literal
