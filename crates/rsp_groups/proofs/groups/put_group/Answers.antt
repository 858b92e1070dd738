use Rattle.std.proofs.Common.{Some, ap, sym, ◌∙◌, cond, ◌&&◌, ◌||◌}
use Rattle.std.specs.Prelude.{nat_lt}
use Rattle.rsp_groups.specs.Answers.{is_empty_key}
use Rattle.std.specs.Map.{lookup}
use Rattle.rsp_multiset.specs.Rows.{row_eq}
use Rattle.rsp_groups.proofs.groups.put_group.Goals as goal

pub returns-in_ok-insert : goal.returns-in_ok-insert
returns-in_ok-insert g c = λ q.
    c.in_ok-insert.ensures.updates.0 q
    ∙ (ap (λ cells. cond (row_eq g.V.PartialEq.eq cells q) (Some c.args.group) (lookup (row_eq g.V.PartialEq.eq q) c.args.groups.now.entries)) c.in_ok-share.ensures
    ∙ ap (λ b. cond (b && row_eq g.V.PartialEq.eq c.args.key.now q) (Some c.args.group) (lookup (row_eq g.V.PartialEq.eq q) c.args.groups.now.entries))
    (sym c.if-has_row.true
    ∙ (c.has_row.ensures ∙ ap (λ b. b || nat_lt 0 c.args.group.rows) (c.is_keyless.ensures ∙ ap is_empty_key c.as_slice.ensures.value))))

pub returns-else-has_row : goal.returns-else-has_row
returns-else-has_row g c = λ q.
    ap (λ b. cond (b && row_eq g.V.PartialEq.eq c.args.key.now q) (Some c.args.group) (lookup (row_eq g.V.PartialEq.eq q) c.args.groups.now.entries))
    (sym c.if-has_row.false
    ∙ (c.has_row.ensures ∙ ap (λ b. b || nat_lt 0 c.args.group.rows) (c.is_keyless.ensures ∙ ap is_empty_key c.as_slice.ensures.value)))
