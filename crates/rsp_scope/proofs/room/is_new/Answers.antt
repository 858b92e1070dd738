use Rattle.std.proofs.Common.{◌∙◌, ap, sym}
use Rattle.std.specs.Prelude.{◌||◌}
use Rattle.std.specs.List.{list_any}
use Rattle.rsp_terms.specs.Same.{fact_eq}
use Rattle.rsp_scope.specs.Quads.{fact_of, names, stored_with}
use Rattle.rsp_scope.proofs.InsertCounts.{any_stored, new_else, new_then}
use Rattle.rsp_scope.proofs.room.is_new.Goals as goal

pub returns-then-not-is_stored : goal.returns-then-not-is_stored
returns-then-not-is_stored c =
    let fact = fact_of c.args.quad.now in
    let all = list_any (fact_eq fact) (stored_with c.args.facts.now c.args.before.now) in
    new_then c.is_stored.result c.is_among.result all
    (any_stored fact c.args.facts.now c.args.before.now ∙ (λ i. sym c.is_stored.ensures i || sym c.is_among.ensures i))
    c.if-not-is_stored.true

pub returns-else-not-is_stored : goal.returns-else-not-is_stored
returns-else-not-is_stored c =
    let fact = fact_of c.args.quad.now in
    let all = list_any (fact_eq fact) (stored_with c.args.facts.now c.args.before.now) in
    new_else c.is_stored.result (names c.args.before.now fact) all
    (any_stored fact c.args.facts.now c.args.before.now ∙ ap (λ b. b || names c.args.before.now fact) (sym c.is_stored.ensures))
    c.if-not-is_stored.false
