use Rattle.std.proofs.Common.{map, arith, ◌∙◌}
use Rattle.rsp_groups.specs.Answers.{group_row}
use Rattle.rsp_groups.specs.Carrying.{known_weaker, row_alike}
use Rattle.rsp_groups.proofs.Giving.{touch-here, touch-weaker, row_over-alike, rows-next, rows-end}
use Rattle.rsp_groups.proofs.Turning.{rows-joined}
use Rattle.rsp_groups.proofs.Walking.{alike-twice}
use Rattle.rsp_groups.proofs.touching.touched_rows.Goals as goal

pub row_at-requires : goal.row_at-requires
row_at-requires g c =
    let here = touch-here _ _ c.counted_at-times.result.0.now c.counted_at-times.result.1 _ c.counted_at-times.ensures.rest c.loop-index.invariant.1 in
    touch-weaker (g.D.Domain.knows c.args.domain.now) (g.D.Domain.knows c.loop-index.domain) (λ v known. (c.loop-index.invariant.0 v known).0)
    c.args.grouping.now.width c.args.grouping.now.keys.items c.counted_at-times.result.0.now here.0

pub loop-index-preserved : goal.loop-index-preserved
loop-index-preserved g c =
    let width = c.args.grouping.now.width in
    let keys = c.args.grouping.now.keys.items in
    let knows0 = g.D.Domain.knows c.args.domain.now in
    let knows1 = g.D.Domain.knows c.loop-index.domain in
    let knows2 = g.D.Domain.knows c.row_at.new.domain in
    let shown0 = g.D.Domain.shown c.args.domain.now in
    let shown1 = g.D.Domain.shown c.loop-index.domain in
    let shown2 = g.D.Domain.shown c.row_at.new.domain in
    let key = c.counted_at-times.result.0.now in
    let here = touch-here _ _ key c.counted_at-times.result.1 _ c.counted_at-times.ensures.rest c.loop-index.invariant.1 in
    let alike = row_alike shown0 knows1 shown1 key (known_weaker c.loop-index.invariant.0 key here.0.known) in (
      alike-twice knows0 knows1 knows2 shown0 shown1 shown2 c.loop-index.invariant.0 c.row_at.ensures.known,
      here.1,
      λ arguments aggregates rows stands.
          let row_of = group_row width (map (λ a. a.variable) c.args.grouping.now.aggregates.items) arguments aggregates in
          let so_far = c.loop-index.invariant.2 arguments aggregates rows stands in
          let one = c.in_ok-found.ensures.law arguments aggregates rows so_far.0 in (
            one.0,
            (
              rows-joined width knows1 knows2 shown1 shown2 c.row_at.ensures.known c.loop-index.rows.items c.push_row.new.rows.items c.in_ok-found.found
                  c.in_ok-push_row.ensures so_far.1.0 one.1.0,
              rows-next shown0 width keys row_of rows knows1 knows2 shown1 shown2 c.row_at.ensures.known _ _ key c.counted_at-times.result.1 c.counted_at-times.ensures.rest
                  c.in_ok-found.found c.loop-index.rows.items c.push_row.new.rows.items c.in_ok-push_row.ensures so_far.1.0
                  (one.1.1 ∙ row_over-alike shown0 shown1 width keys row_of rows key alike) so_far.1.1,
            ),
          ),
    )

pub returns-clause-law : goal.returns-clause-law
returns-clause-law g c = λ arguments aggregates rows stands.
    let so_far = c.loop-index.invariant.2 arguments aggregates rows stands in (
      so_far.0,
      (
        so_far.1.0,
        rows-end (g.D.Domain.shown c.args.domain.now) c.args.grouping.now.width c.args.grouping.now.keys.items
            (group_row c.args.grouping.now.width (map (λ a. a.variable) c.args.grouping.now.aggregates.items) arguments aggregates) rows c.args.touched.now c.loop-index.index _ _
            (omega (arith, c.loop-index-test.false, c.distinct-index-end.ensures.length)) so_far.1.1,
      ),
    )
