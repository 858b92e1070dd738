use Rattle.rsp_groups.proofs.Stepping.{may-take, taken-law}
use Rattle.rsp_groups.proofs.folds.move_value.Goals as goal

pub take-requires : goal.take-requires
take-requires g c =
    may-take (g.F.Fold.stands c.args.fold.now) c.args.times c.args.value.now c.args.out c.if-out.false c.requires

pub returns-else-out-clause-law : goal.returns-else-out-clause-law
returns-else-out-clause-law g c =
    taken-law (g.F.Fold.stands c.args.fold.now) c.args.times c.args.value.now (g.F.Fold.stands c.take.new.self) c.take.result c.args.out c.if-out.false
    c.take.ensures.law
