use Rattle.std.proofs.Common.{◌≡◌, suc, ◌+◌, ◌-◌, drop, length, arith}
use Rattle.std.proofs.lemmas.List.{drop_more}
use Rattle.rsp_scope.specs.Kept.{shortened}
use Rattle.rsp_scope.proofs.Turns.{turned-at}
use Rattle.rsp_scope.proofs.queue.shorten_all.Goals as goal

pub loop-until-preserved : goal.loop-until-preserved
loop-until-preserved c =
    let one : length c.args.untils.now - c.loop-until.until-index ≡ suc (length c.args.untils.now - (c.loop-until.until-index + 1))
    = omega (arith, c.loop-until-test.true) in
    turned-at (length c.args.untils.now - c.loop-until.until-index) (length c.args.untils.now - (c.loop-until.until-index + 1))
    c.loop-until.items.items
    _
    (drop c.loop-until.until-index c.args.untils.now)
    (drop (c.loop-until.until-index + 1) c.args.untils.now)
    c.turn.new.items.items
    (shortened c.args.items.now.items c.args.untils.now)
    c.turn.ensures
    one
    (drop_more c.args.untils.now c.loop-until.until-index _ c.loop-until-test.true)
    c.loop-until.invariant.0
    c.loop-until.invariant.1
