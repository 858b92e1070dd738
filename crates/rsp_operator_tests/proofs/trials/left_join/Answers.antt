use Rattle.rsp_operator_tests.proofs.Alike.{numbers-alike}
use Rattle.rsp_operator_tests.proofs.trials.left_join.Goals as goal

pub new-requires-2-clause-nothing : goal.new-requires-2-clause-nothing
new-requires-2-clause-nothing g c = λ domain.
    numbers-alike g.P.Pairing.variables g.P.Pairing.test c.in_ok-operator.ensures.width c.in_ok-operator.ensures.pairing (c.in_ok-operator.ensures.nothing domain)
