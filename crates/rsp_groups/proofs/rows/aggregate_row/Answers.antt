use Rattle.std.proofs.Common.{ap, map, sym, ◌∙◌}
use Rattle.std.proofs.lemmas.Slice.Zip.{Zip-more, either_empty_from_Zip}
use Rattle.std.specs.Iterator.Adapters.{zip_first, zip_second}
use Rattle.std.specs.Slice.Iter.{iter_rest}
use Rattle.rsp_multiset.specs.Shown.{shown_row}
use Rattle.rsp_groups.specs.Answers.{with_cells}
use Rattle.rsp_groups.proofs.Giving.{cells-end}
use Rattle.rsp_groups.proofs.Walking.{alike-twice}
use Rattle.rsp_groups.proofs.rows.aggregate_row.Goals as goal

pub loop-aggregate-preserved : goal.loop-aggregate-preserved
loop-aggregate-preserved g c =
    let width = c.args.width in
    let knows0 = g.D.Domain.knows c.args.domain.now in
    let knows1 = g.D.Domain.knows c.loop-aggregate.domain in
    let knows2 = g.D.Domain.knows c.extended_row.new.domain in
    let shown0 = g.D.Domain.shown c.args.domain.now in
    let shown1 = g.D.Domain.shown c.loop-aggregate.domain in
    let shown2 = g.D.Domain.shown c.extended_row.new.domain in
    let more = Zip-more _ c.next.new.self _ (c.in-Some.aggregate, c.in-Some.value) c.in-Some.is c.next.ensures.steps in
    let row = shown_row shown1 c.loop-aggregate.row in (
      alike-twice knows0 knows1 knows2 shown0 shown1 shown2 c.loop-aggregate.invariant.0 c.extended_row.ensures.known,
      c.in_ok-row-2.ensures.row,
      ap (with_cells width (map (λ a. a.variable) (iter_rest (zip_first c.next.new.self))) (iter_rest (zip_second c.next.new.self))) c.in_ok-row-2.ensures.shown
          ∙ sym (λ i. with_cells width (map (λ a. a.variable) (more.0 i)) (more.1 i) row) ∙ c.loop-aggregate.invariant.2,
    )

pub returns-clause-shown : goal.returns-clause-shown
returns-clause-shown g c =
    let ended = either_empty_from_Zip _ c.next.new.self _ c.in-None.is c.next.ensures.steps in
    sym (cells-end c.args.width (λ a. a.variable) _ _ _ ended) ∙ c.loop-aggregate.invariant.2
