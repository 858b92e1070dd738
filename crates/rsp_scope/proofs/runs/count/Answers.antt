use Rattle.std.proofs.Common.{rules, ◌+◌, ◌≤◌, arith, Fits-le}
use Rattle.rsp_scope.specs.Runs.{one}
use Rattle.rsp_scope.proofs.Endings.{over-at, sum-ones}
use Rattle.rsp_scope.proofs.runs.count.Goals as goal

pub overflow_add-count : goal.overflow_add-count
overflow_add-count c =
    let here = over-at one c.args.runs.now c.loop-run.run-index c.run-item.result c.loop-run-test.true c.run-item.is in
    let long = sum-ones c.run-item.result in
    let bound : c.loop-run.count + c.len-count.result ≤ c.args.most = omega (arith, here, long, c.len-count.ensures, c.loop-run.invariant, c.requires) in
    Fits-le bound (search rules)

pub loop-run-preserved : goal.loop-run-preserved
loop-run-preserved c =
    let here = over-at one c.args.runs.now c.loop-run.run-index c.run-item.result c.loop-run-test.true c.run-item.is in
    let long = sum-ones c.run-item.result in
    omega (arith, here, long, c.len-count.ensures, c.loop-run.invariant)
