use Rattle.std.proofs.Common.{◌<◌, ◌∙◌, sym, subst, length, ap, arith}
use Rattle.std.proofs.lemmas.List.{length-set}
use Rattle.rsp_terms.specs.declared.term.Term.{Term}
use Rattle.std.specs.Prelude.{Option}
use Rattle.rsp_groups.specs.Moves.{MayMove}
use Rattle.rsp_groups.proofs.Stepping.{may-next, mixing-next, mixing-end, map-put}
use Rattle.rsp_groups.proofs.folds.move_values.Goals as goal

pub move_value-requires : goal.move_value-requires
move_value-requires g c =
    subst (λ fold. MayMove {E = Option Term} (g.F.Fold.stands fold) c.args.out c.args.times c.index-values-place.result)
    (sym c.index_mut.ensures.value)
    (may-next g.F.Fold.stands c.args.out c.args.times c.args.values.now c.args.folds.now.items c.loop-place.folds.items c.loop-place.place c.index_mut.result.now c.index-values-place.result
    (omega (arith, c.requires.long, c.loop-place-test.true, c.len-place-end.ensures)) c.requires.long c.index-values-place.is c.requires.may c.loop-place.invariant.0 c.loop-place.invariant.2)

pub loop-place-preserved : goal.loop-place-preserved
loop-place-preserved g c =
    let below : c.loop-place.place < length c.loop-place.folds.items = omega (arith, c.loop-place-test.true, c.len-place-end.ensures, c.loop-place.invariant.0) in
    let here = sym c.index_mut.ensures.value in (
      length-set c.loop-place.folds.items c.loop-place.place c.move_value.new.fold ∙ c.loop-place.invariant.0,
      map-put g.F.Fold.aggregate c.loop-place.folds.items c.loop-place.place c.move_value.new.fold c.index_mut.result.now (c.move_value.ensures.aggregate ∙ ap g.F.Fold.aggregate (sym here)) below
          ∙ c.loop-place.invariant.1,
      mixing-next g.F.Fold.stands c.args.out c.args.times c.args.values.now c.args.folds.now.items c.loop-place.folds.items c.loop-place.place c.index_mut.result.now c.move_value.new.fold c.index-values-place.result
          (omega (arith, c.requires.long, c.loop-place-test.true, c.len-place-end.ensures)) c.requires.long c.index-values-place.is c.loop-place.invariant.0
          (λ before after moved short stands. c.in_ok-move_value.ensures.law before after moved short (subst (λ fold. g.F.Fold.stands fold before) here stands)) c.loop-place.invariant.2,
    )

pub returns-clause-law : goal.returns-clause-law
returns-clause-law g c =
    mixing-end g.F.Fold.stands c.args.out c.args.times c.args.values.now c.args.folds.now.items c.loop-place.folds.items c.loop-place.place
    (omega (arith, c.loop-place-test.false, c.len-place-end.ensures)) c.requires.long c.loop-place.invariant.2
