use Rattle.std.proofs.Common.{◌<◌, arith, length, refl}
use Rattle.rsp_engine.proofs.DueNext.{one_dated, sought_so_far, watching_there}
use Rattle.rsp_engine.proofs.schedule.look_at_all.Goals as goal

pub loop-query-init : goal.loop-query-init
loop-query-init g c = record { same = refl; sought = λ k d before within. absurd (omega (arith, before)) }

pub look-requires-clause-policy : goal.look-requires-clause-policy
look-requires-clause-policy g c =
    let below : c.loop-query.query < length c.loop-query.queries = omega arith in
    (watching_there c.args.from c.loop-query.query c.args.queries.now c.loop-query.queries c.index-queries-query.result below
    c.loop-query.invariant.same c.requires).policy

pub look-requires-clause-watched : goal.look-requires-clause-watched
look-requires-clause-watched g c =
    let below : c.loop-query.query < length c.loop-query.queries = omega arith in
    (watching_there c.args.from c.loop-query.query c.args.queries.now c.loop-query.queries c.index-queries-query.result below
    c.loop-query.invariant.same c.requires).watched

pub loop-query-preserved : goal.loop-query-preserved
loop-query-preserved g c =
    let below : c.loop-query.query < length c.loop-query.queries = omega arith in
    record {
      same =
          one_dated c.args.from c.loop-query.query c.args.queries.now c.loop-query.queries c.index-queries-query.result below
          c.loop-query.invariant.same c.look.new.live c.look.ensures.same;
      sought =
          sought_so_far c.args.from c.loop-query.query c.args.queries.now c.loop-query.queries c.index-queries-query.result below
          c.loop-query.invariant.same c.look.new.live c.loop-query.invariant.sought c.look.ensures.sought;
    }

pub returns-clause-same : goal.returns-clause-same
returns-clause-same g c = c.loop-query.invariant.same

pub returns-clause-sought : goal.returns-clause-sought
returns-clause-sought g c = λ k d within. c.loop-query.invariant.sought k d (omega (arith, within)) within
