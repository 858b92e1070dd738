use Rattle.std.proofs.Common.{arith, length, ◌+◌}
use Rattle.rsp_lex.proofs.EnoughLaws.{enough}
use Rattle.rsp_lex.proofs.FormLaws.{form_is}
use Rattle.rsp_lex.proofs.lexing.tokens.Goals as goal

pub returns-clause-bound : goal.returns-clause-bound
returns-clause-bound c = λ most within. enough most (length c.args.text.now + 1) 0 c.args.text.now (omega arith) within

pub returns-clause-forms : goal.returns-clause-forms
returns-clause-forms c = form_is
