use Rattle.std.proofs.Common.{[], map, length, ◌≡◌, sym, subst}
use Rattle.std.proofs.lemmas.Result.{IfOk-weaker}
use Rattle.rsp_groups.specs.Standing.{GroupStands}
use Rattle.rsp_groups.proofs.Keyed.{found-has}
use Rattle.rsp_groups.proofs.Written.{none-of}
use Rattle.rsp_groups.proofs.groups.take_group.Goals as goal

pub returns-in-Some-clause-group : goal.returns-in-Some-clause-group
returns-in-Some-clause-group g c = λ domain width keys variables arguments rows known long stands.
    found-has _ _ c.in-Some.group (sym c.in-Some.ensures.value) (stands.held c.args.key.now)

pub returns-in-None-clause-group : goal.returns-in-None-clause-group
returns-in-None-clause-group g c =
    IfOk-weaker c.fresh_group.result _ _
    (λ group fresh domain width keys variables arguments rows known long stands.
    let nothing =
    subst (λ list. length arguments ≡ length list
    → GroupStands g.F.Fold.stands g.F.Fold.aggregate arguments (map (λ a. g.F.Fold.aggregate a.fold) list) group.rows group.folds.items [])
    c.as_slice.ensures.value (fresh arguments) long in
    subst (GroupStands g.F.Fold.stands g.F.Fold.aggregate arguments (map (λ a. g.F.Fold.aggregate a.fold) c.args.grouping.now.aggregates.items) group.rows group.folds.items)
    (sym (none-of g.met.D.Value.Cell.identical (g.D.Domain.knows domain) (g.D.Domain.shown domain) width keys _ _ _ (g.met.D.Domain.told_apart domain) c.args.key.now
    c.args.groups.now.entries rows known (sym c.in-None.ensures.value) stands))
    nothing)
    c.fresh_group.ensures.stands
