use Rattle.std.proofs.Common.{[], map}
use Rattle.std.proofs.lemmas.List.{length-map}
use Rattle.std.proofs.lemmas.Result.{IfOk-weaker}
use Rattle.rsp_groups.proofs.Applying.{nothing-touched, nothing-fits, nothing-made, net-fits-from_nothing, net-leads-from_nothing}
use Rattle.rsp_groups.proofs.operator.nothing_grouped.Goals as goal

pub row_at-requires : goal.row_at-requires
row_at-requires g c = nothing-touched (g.D.Domain.knows c.args.domain.now) c.args.grouping.now.width c.args.grouping.now.keys.items c.in_ok-key.key c.in_ok-key.ensures

pub returns-clause-rows : goal.returns-clause-rows
returns-clause-rows g c =
    let aggregates = c.args.grouping.now.aggregates.items in
    let arguments = map (λ a. g.C.Computed.of a.argument) aggregates in
    let first = c.in_ok-groups.ensures c.args.domain.now arguments (length-map aggregates (λ a. g.C.Computed.of a.argument)) in
    let found = c.in_ok-found.ensures.law arguments (map (λ a. g.F.Fold.aggregate a.fold) aggregates) [] first in
    IfOk-weaker c.difference.result _ _
    (λ net made.
    net-fits-from_nothing g.met.D.Value.Cell.identical net c.new-none.result.items c.push_row.new.rows.items c.new-none.ensures.items made c.args.grouping.now.width (g.D.Domain.knows c.row_at.new.domain)
    (nothing-fits c.new-rows.result.items c.push_row.new.rows.items c.in_ok-found.found c.new-rows.ensures.items c.in_ok-push_row.ensures
    c.args.grouping.now.width (g.D.Domain.knows c.row_at.new.domain) found.1.0))
    c.difference.ensures

pub returns-clause-leads : goal.returns-clause-leads
returns-clause-leads g c =
    let aggregates = c.args.grouping.now.aggregates.items in
    let arguments = map (λ a. g.C.Computed.of a.argument) aggregates in
    let first = c.in_ok-groups.ensures c.args.domain.now arguments (length-map aggregates (λ a. g.C.Computed.of a.argument)) in
    let found = c.in_ok-found.ensures.law arguments (map (λ a. g.F.Fold.aggregate a.fold) aggregates) [] first in
    IfOk-weaker c.difference.result _ _
    (λ net made.
    net-leads-from_nothing g.met.D.Value.Cell.identical net c.new-none.result.items c.push_row.new.rows.items c.new-none.ensures.items made (g.D.Domain.shown c.row_at.new.domain) _
    (nothing-made c.new-rows.result.items c.push_row.new.rows.items c.in_ok-found.found c.new-rows.ensures.items c.in_ok-push_row.ensures
    (g.D.Domain.shown c.args.domain.now) (g.D.Domain.shown c.row_at.new.domain) c.args.grouping.now.width c.args.grouping.now.keys.items
    (λ a. a.variable) (λ a. g.C.Computed.of a.argument) (λ a. g.F.Fold.aggregate a.fold) aggregates c.in_ok-key.key c.in_ok-key.ensures found.1.1))
    c.difference.ensures
