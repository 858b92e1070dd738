use Rattle.std.proofs.Common.{map, ap, subst, sym, ◌∙◌}
use Rattle.std.specs.List.{AllZip}
use Rattle.rsp_multiset.specs.Shown.{shown_row}
use Rattle.rsp_groups.specs.Answers.{with_cells}
use Rattle.rsp_groups.specs.Moves.{columns, results_over}
use Rattle.rsp_groups.proofs.rows.renew_row.Goals as goal

pub returns-clause-shows : goal.returns-clause-shows
returns-clause-shows g c = λ arguments aggregates rows group.
    let width = c.args.grouping.now.width in
    let variables = map (λ a. a.variable) c.args.grouping.now.aggregates.items in
    let key = shown_row (g.D.Domain.shown c.args.domain.now) c.args.key.now in
    let lists = columns arguments rows in
    record {
      is = c.in_ok-row.ensures.row;
      shows =
          c.in_ok-row.ensures.shown
          ∙ (λ i. with_cells width (map (λ a. a.variable) (c.as_slice-2.ensures.value i)) (c.as_slice-3.ensures.value i) key)
          ∙ ap (λ results. with_cells width variables results key)
          (c.in_ok-results.ensures lists (subst (λ fs. AllZip g.F.Fold.stands fs lists) (sym c.as_slice.ensures.value) group.folds)
          ∙ ap (λ fs. results_over (map g.F.Fold.aggregate fs) lists) c.as_slice.ensures.value
          ∙ ap (λ kinds. results_over kinds lists) group.aggregates);
    }
