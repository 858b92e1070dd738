use Rattle.std.proofs.Common.{rules, arith, ◌≤◌}
use Rattle.std.specs.List.{All}
use Rattle.rsp_scope.proofs.LogLaws.{ends-later}
use Rattle.rsp_scope.proofs.store_log.StoreLog.record.Goals as goal

pub invariant_of-self-in_err-self-inside : goal.invariant_of-self-in_err-self-inside
invariant_of-self-in_err-self-inside c =
    let more : c.self.inside.end ≤ c.max-self-inside.result = search rules in
    let high : c.in_ok-end.end ≤ c.max-self-inside.result = search rules in
    c.log.ensures.ends c.max-self-inside.result high (ends-later c.self.inside.end c.max-self-inside.result c.self.inside.pieces.items more c.self.invariant)

pub invariant_of-self-2 : goal.invariant_of-self-2
invariant_of-self-2 c =
    let more : c.self.inside.end ≤ c.max-self-inside.result = search rules in
    let high : c.in_ok-end.end ≤ c.max-self-inside.result = search rules in
    c.log.ensures.ends c.max-self-inside.result high (ends-later c.self.inside.end c.max-self-inside.result c.self.inside.pieces.items more c.self.invariant)

pub returns-clause-end : goal.returns-clause-end
returns-clause-end c =
    rw (← c.self.view_is)
    (λ (few : All (λ place. place ≤ c.self.inside.end) c.args.places.now).
    let least = c.in_ok-end.ensures.least c.self.inside.end few in
    grind (arith, least))
