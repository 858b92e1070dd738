use Rattle.std.proofs.Common.{rules, ◌≡◌, ◌<◌, ◌≤◌, ◌*◌, ◌/◌, length, slice_index_or, arith}
use Rattle.std.proofs.lemmas.Bool.Decides.{nat_tests}
use Rattle.rsp_scope.proofs.Forgetting.{few-up-to}
use Rattle.rsp_scope.proofs.times.are_half_up_to.Goals as goal

pub returns-in-Some : goal.returns-in-Some
returns-in-Some c above =
    let times = c.args.times.now in
    let below : length c.args.times.now / 2 < length c.args.times.now = search rules in
    let is : c.in-Some.middle.now ≡ slice_index_or c.args.times.now (length c.args.times.now / 2) 0 = search rules in
    let high : c.args.low < slice_index_or c.args.times.now (length c.args.times.now / 2) 0 = grind (arith, nat_tests, above, is) in
    let few = few-up-to c.args.low (length c.args.times.now / 2) 0 c.args.times.now c.requires below high in
    let half : 2 * (length c.args.times.now / 2) ≤ length c.args.times.now = grind arith in
    omega (arith, few, half)
