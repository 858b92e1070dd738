use Rattle.rsp_operator_tests.proofs.Alike.{counts-alike}
use Rattle.rsp_operator_tests.proofs.trials.keyed_semi.Goals as goal

pub new-requires-clause-nothing : goal.new-requires-clause-nothing
new-requires-clause-nothing c = λ domain. counts-alike c.new-operator.ensures.width c.new-operator.ensures.key (c.new-operator.ensures.nothing domain)
