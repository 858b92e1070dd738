use Rattle.rsp_operator_tests.proofs.Alike.{none-stand}
use Rattle.rsp_operator_tests.proofs.trials.once.Goals as goal

pub new-requires-3-clause-nothing : goal.new-requires-3-clause-nothing
new-requires-3-clause-nothing c = λ domain. none-stand _ _ _ c.in_ok-operator.ensures.rows
