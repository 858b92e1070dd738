use Rattle.std.proofs.Common.{rules, ap, ◌∙◌}
use Rattle.rsp_multiset.specs.Shown.{shown_row}
use Rattle.rsp_multiset.specs.Variables.{cell}
use Rattle.rsp_values.proofs.MergedCells.{bound_left, unbound_left, shown-long}
use Rattle.rsp_values.proofs.reading.MergedRowsReadRow.term_at.Goals as goal

pub returns-in-Some : goal.returns-in-Some
returns-in-Some g c =
    let shown = g.D.Domain.shown c.self.inside.domain.now in
    let left = c.self.inside.left.now in
    let right = c.self.inside.right.now in
    bound_left (shown_row shown left) (shown_row shown right) c.args.place _ (shown-long shown left right c.self.invariant.0) (search rules)
    ∙ ap (λ row. cell row c.args.place) c.self.view_is

pub returns-in-None : goal.returns-in-None
returns-in-None g c =
    let shown = g.D.Domain.shown c.self.inside.domain.now in
    let left = c.self.inside.left.now in
    let right = c.self.inside.right.now in
    unbound_left (shown_row shown left) (shown_row shown right) c.args.place _ (shown-long shown left right c.self.invariant.0) (search rules) c.shown_at-in-None.ensures
    ∙ ap (λ row. cell row c.args.place) c.self.view_is
