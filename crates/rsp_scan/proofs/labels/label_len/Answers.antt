use Rattle.std.proofs.Common.{◌∙◌, sym}
use Rattle.rsp_scan.proofs.LongestLabel.{label_begun_at, no_label_at}
use Rattle.rsp_scan.proofs.labels.label_len.Goals as goal

pub returns-then-not-is_label_start : goal.returns-then-not-is_label_start
returns-then-not-is_label_start c =
    sym (no_label_at c.args.text.now _ c.in-Some.first c.utf8.text (sym c.chars-characters.ensures.rest ∙ c.in-Some.ensures.steps.0)
    (sym c.is_label_start.ensures ∙ c.if-not-is_label_start.true))

pub returns-else-not-is_label_start : goal.returns-else-not-is_label_start
returns-else-not-is_label_start c =
    rw (c.len_utf8.ensures.value, c.further_len.ensures.value, c.as_str.ensures)
    (sym (label_begun_at c.args.text.now _ c.in-Some.first c.utf8.text (sym c.chars-characters.ensures.rest ∙ c.in-Some.ensures.steps.0)
    (sym c.is_label_start.ensures ∙ c.if-not-is_label_start.false)))
