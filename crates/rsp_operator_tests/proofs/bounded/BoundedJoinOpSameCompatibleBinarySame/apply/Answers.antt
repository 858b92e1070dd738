use Rattle.std.proofs.lemmas.Result.{IfOk-weaker}
use Rattle.rsp_operator_tests.proofs.Told.{some-told}
use Rattle.rsp_operator_tests.proofs.bounded.BoundedJoinOpSameCompatibleBinarySame.apply.Goals as goal

pub returns-clause-law : goal.returns-clause-law
returns-clause-law g c =
    IfOk-weaker c.told.result _ _
    (λ net is lefts lefts' rights rights' stands first second.
    let led = some-told _ c.in_ok-answer.answer net is c.in_ok-answer.ensures.law lefts lefts' rights rights' stands first second in
    (rw (c.apply_within.ensures.width, c.apply_within.ensures.pairing) led.0, led.1))
    c.told.ensures
