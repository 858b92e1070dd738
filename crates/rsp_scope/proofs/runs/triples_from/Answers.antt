use Rattle.std.proofs.Common.{rules, ◌+◌, ◌≤◌, nat_le, ◌∙◌, arith, Fits-le}
use Rattle.rsp_scope.specs.Runs.{from, triples}
use Rattle.rsp_scope.specs.declared.ends.Ending.{Ending}
use Rattle.rsp_scope.proofs.Endings.{over-at, over-most, sum-filter}
use Rattle.rsp_scope.proofs.runs.triples_from.Goals as goal

pub overflow_add-sum : goal.overflow_add-sum
overflow_add-sum c =
    let here = over-at (from c.args.next triples) c.args.runs.now c.loop-run.run-index c.run-item.result c.loop-run-test.true c.run-item.is in
    let sum = c.triples_from-sum.ensures ∙ sum-filter (λ (e : Ending). nat_le c.args.next e.end) triples c.run-item.result in
    let most = over-most c.args.next triples c.args.runs.now in
    let bound : c.loop-run.sum + c.triples_from-sum.result ≤ c.args.most = omega (arith, here, sum, most, c.loop-run.invariant, c.requires) in
    Fits-le bound (search rules)

pub loop-run-preserved : goal.loop-run-preserved
loop-run-preserved c =
    let here = over-at (from c.args.next triples) c.args.runs.now c.loop-run.run-index c.run-item.result c.loop-run-test.true c.run-item.is in
    let sum = c.triples_from-sum.ensures ∙ sum-filter (λ (e : Ending). nat_le c.args.next e.end) triples c.run-item.result in
    omega (arith, here, sum, c.loop-run.invariant)
