use Rattle.std.proofs.Common.{chars, sym, ap, ◌∙◌}
use Rattle.rsp_terms.proofs.CharacterSteps.{ends_label, label_begun, no_label}
use Rattle.rsp_terms.proofs.characters.is_label.Goals as goal

pub returns-then-is_label_start : goal.returns-then-is_label_start
returns-then-is_label_start c =
    let begins = sym c.is_label_start.ensures ∙ c.if-is_label_start.true in
    c.continues_label.ensures ∙ ap (λ text. ends_label c.in-Some.first (chars text)) c.as_str.ensures
    ∙ sym (label_begun _ _ c.in-Some.first c.utf8.text (sym c.chars-characters.ensures.rest ∙ c.in-Some.ensures.steps.0) begins)

pub returns-else-is_label_start : goal.returns-else-is_label_start
returns-else-is_label_start c =
    let fails = sym c.is_label_start.ensures ∙ c.if-is_label_start.false in
    c.if-is_label_start.false ∙ sym (no_label _ _ c.in-Some.first c.utf8.text (sym c.chars-characters.ensures.rest ∙ c.in-Some.ensures.steps.0) fails)
