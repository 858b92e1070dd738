use Rattle.std.proofs.Common.{map, sym, subst}
use Rattle.std.proofs.lemmas.Result.{IfOk-weaker}
use Rattle.rsp_multiset.specs.Shown.{shown_row}
use Rattle.rsp_groups.specs.Answers.{group_row, Shows}
use Rattle.rsp_groups.proofs.Keyed.{found-has}
use Rattle.rsp_groups.proofs.rows.row_of_group.Goals as goal

pub returns-in-Some-clause-shows : goal.returns-in-Some-clause-shows
returns-in-Some-clause-shows g c =
    IfOk-weaker c.share.result _ _
    (λ row is arguments aggregates rows group kept.
    let width = c.args.grouping.now.width in
    let knows = g.D.Domain.knows c.args.domain.now in
    let shown = g.D.Domain.shown c.args.domain.now in
    let cells = group_row width (map (λ a. a.variable) c.args.grouping.now.aggregates.items) arguments aggregates rows (shown_row shown c.args.key.now) in
    subst (λ r. Shows width knows shown r cells) (sym is) (found-has (λ r. Shows width knows shown r cells) c.args.group.now.given c.in-Some.row c.in-Some.is kept))
    c.share.ensures

pub returns-in-None-clause-shows : goal.returns-in-None-clause-shows
returns-in-None-clause-shows g c =
    IfOk-weaker c.renew_row.result _ _ (λ row shows arguments aggregates rows group kept. shows arguments aggregates rows group) c.renew_row.ensures.shows
