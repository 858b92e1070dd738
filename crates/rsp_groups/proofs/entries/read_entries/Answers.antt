use Rattle.std.proofs.Common.{ap, map, ◌∙◌}
use Rattle.rsp_groups.specs.Carrying.{known_weaker, row_alike}
use Rattle.rsp_groups.proofs.Walking.{alike-twice, mapped-next, known-here}
use Rattle.rsp_groups.proofs.entries.read_entries.Goals as goal

pub loop-index-preserved : goal.loop-index-preserved
loop-index-preserved g c =
    let knows0 = g.D.Domain.knows c.args.domain.now in
    let knows1 = g.D.Domain.knows c.loop-index.domain in
    let knows2 = g.D.Domain.knows c.read_entry.new.domain in
    let shown0 = g.D.Domain.shown c.args.domain.now in
    let shown1 = g.D.Domain.shown c.loop-index.domain in
    let shown2 = g.D.Domain.shown c.read_entry.new.domain in
    let row = c.counted_at-by.result.0.now in
    let known = known-here knows0 _ row c.counted_at-by.result.1 _ c.counted_at-by.ensures.rest c.loop-index.invariant.1 in
    let alike = row_alike shown0 knows1 shown1 row (known_weaker c.loop-index.invariant.0 row known.0) in
    let made = c.in_ok-read_entry.ensures in (
      alike-twice knows0 knows1 knows2 shown0 shown1 shown2 c.loop-index.invariant.0 c.read_entry.ensures.known,
      known.1,
      mapped-next _ _ _ _ _ c.in_ok-read_entry.field-0 _ _ c.counted_at-by.ensures.rest c.in_ok-push.ensures.items made.key c.loop-index.invariant.2,
      mapped-next _ _ _ _ _ c.in_ok-read_entry.field-0 _ _ c.counted_at-by.ensures.rest c.in_ok-push.ensures.items
          (made.values ∙ ap (λ shown. map (λ a. g.C.Computed.of a.argument shown) c.args.grouping.now.aggregates.items) alike) c.loop-index.invariant.3,
      mapped-next _ _ _ _ _ c.in_ok-read_entry.field-0 _ _ c.counted_at-by.ensures.rest c.in_ok-push.ensures.items made.by c.loop-index.invariant.4,
    )
