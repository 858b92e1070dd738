use Rattle.rsp_terms.proofs.Injective.{same_from_printed}
use Rattle.rsp_terms.proofs.printing.print.Goals as goal

pub returns-then-is_err-clause-injective : goal.returns-then-is_err-clause-injective
returns-then-is_err-clause-injective c = λ other is same. same_from_printed _ _ is c.push_term-printed.ensures.numbered same

pub returns-else-is_err-clause-injective : goal.returns-else-is_err-clause-injective
returns-else-is_err-clause-injective c = λ other is same. same_from_printed _ _ is c.push_term-printed.ensures.numbered same
