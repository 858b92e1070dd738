use Rattle.std.proofs.Common.{[], true≢false, length, map, sym, ap, subst, cond, Some, ◌≡◌, ◌∙◌}
use Rattle.std.specs.Map.{lookup}
use Rattle.rsp_multiset.specs.Rows.{row_eq}
use Rattle.rsp_groups.specs.Answers.{is_empty_key}
use Rattle.rsp_groups.specs.Standing.{GroupStands}
use Rattle.rsp_groups.proofs.Written.{stand-first, stand-keyless}
use Rattle.rsp_groups.proofs.Turning.{known-unbound}
use Rattle.rsp_groups.proofs.operator.first_groups.Goals as goal

pub returns-then-is_keyless : goal.returns-then-is_keyless
returns-then-is_keyless g c = λ domain arguments long.
    stand-keyless g.met.D.Value.Cell.identical (g.D.Domain.knows domain) (g.D.Domain.shown domain) c.args.grouping.now.width c.args.grouping.now.keys.items _ _ _
    (ap is_empty_key (sym c.as_slice.ensures.value) ∙ sym c.is_keyless.ensures ∙ c.if-is_keyless.true)
    (known-unbound (g.D.Domain.knows domain) c.args.grouping.now.width) c.in_ok-group.group c.new-groups.result.entries c.insert.new.self.entries c.new-groups.ensures.empty
    (λ q. c.in_ok-insert.ensures.updates.0 q
    ∙ ap (λ cells. cond (row_eq g.D.Value.PartialEq.eq cells q) (Some c.in_ok-group.group) (lookup (row_eq g.D.Value.PartialEq.eq q) c.new-groups.result.entries)) c.in_ok-key.ensures)
    (subst (λ list. length arguments ≡ length list
    → GroupStands g.F.Fold.stands g.F.Fold.aggregate arguments (map (λ a. g.F.Fold.aggregate a.fold) list) c.in_ok-group.group.rows c.in_ok-group.group.folds.items [])
    c.as_slice-then-is_keyless.ensures.value (c.in_ok-group.ensures.stands arguments) long) c.in_ok-group.ensures.given

pub returns : goal.returns
returns g c = λ domain arguments long.
    stand-first g.met.D.Value.Cell.identical (g.D.Domain.knows domain) (g.D.Domain.shown domain) c.args.grouping.now.width c.args.grouping.now.keys.items _ _ _
    (λ none. true≢false (sym (sym c.if-is_keyless.false ∙ c.is_keyless.ensures ∙ ap is_empty_key (c.as_slice.ensures.value ∙ none))))
    c.new-groups.result.entries c.new-groups.ensures.empty
