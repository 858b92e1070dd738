use Rattle.std.proofs.Common.{ap}
use Rattle.rsp_operator_tests.proofs.Alike.{stands-alike}
use Rattle.rsp_operator_tests.proofs.trials.compatible_join.Goals as goal

pub returns-clause-nothing : goal.returns-clause-nothing
returns-clause-nothing c = λ domain.
    stands-alike c.in_ok-operator.ensures.width (ap (λ pairing. pairing.key.items) c.in_ok-operator.ensures.pairing) (c.in_ok-operator.ensures.nothing domain)
