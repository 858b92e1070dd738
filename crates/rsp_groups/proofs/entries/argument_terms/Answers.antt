use Rattle.std.proofs.Common.{ap, ◌∙◌}
use Rattle.rsp_groups.specs.Carrying.{known_weaker, row_alike}
use Rattle.rsp_groups.proofs.Walking.{alike-twice, item-here, term-next}
use Rattle.rsp_groups.proofs.entries.argument_terms.Goals as goal

pub loop-aggregate-preserved : goal.loop-aggregate-preserved
loop-aggregate-preserved g c =
    let knows0 = g.D.Domain.knows c.args.domain.now in
    let knows1 = g.D.Domain.knows c.loop-aggregate.domain in
    let knows2 = g.D.Domain.knows c.argument_term.new.domain in
    let shown0 = g.D.Domain.shown c.args.domain.now in
    let shown1 = g.D.Domain.shown c.loop-aggregate.domain in
    let shown2 = g.D.Domain.shown c.argument_term.new.domain in
    let alike = row_alike shown0 knows1 shown1 c.args.row.now (known_weaker c.loop-aggregate.invariant.0 c.args.row.now c.requires) in (
      alike-twice knows0 knows1 knows2 shown0 shown1 shown2 c.loop-aggregate.invariant.0 c.argument_term.ensures.known,
      term-next _ c.args.aggregates.now c.loop-aggregate.aggregate-index c.aggregate-item.result _ _ c.in_ok-argument_term.field-0 _
          (item-here c.args.aggregates.now c.loop-aggregate.aggregate-index c.aggregate-item.result c.loop-aggregate-test.true c.aggregate-item.is)
          c.in_ok-push.ensures.items (c.in_ok-argument_term.ensures.term ∙ ap (g.C.Computed.of c.aggregate-item.result.argument) alike) c.loop-aggregate.invariant.1,
    )
