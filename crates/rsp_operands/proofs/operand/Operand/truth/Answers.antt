use Rattle.std.proofs.Common.{rules, sym}
use Rattle.rsp_operands.proofs.NumberTruth.{truth_of_number}
use Rattle.rsp_operands.proofs.operand.Operand.truth.Goals as goal

pub returns-in-Number : goal.returns-in-Number
returns-in-Number c = search (rules, sym (truth_of_number c.in-Number.number c.read_back.ensures.read))
