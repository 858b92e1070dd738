use Rattle.std.proofs.Common.{◌∙◌, sym, true≢false}
use Rattle.rsp_strings.proofs.Tags.{at_hyphen, other_front}
use Rattle.rsp_strings.proofs.ranges.is_within_range.Goals as goal

pub returns-then-eq_ignore_ascii_case : goal.returns-then-eq_ignore_ascii_case
returns-then-eq_ignore_ascii_case c =
    at_hyphen c.args.tag.now c.args.range.now c.if-tag-range.false
    (c.eq_ignore_ascii_case.ensures.test.0 c.if-eq_ignore_ascii_case.true)

pub returns-else-eq_ignore_ascii_case : goal.returns-else-eq_ignore_ascii_case
returns-else-eq_ignore_ascii_case c =
    c.if-eq_ignore_ascii_case.false
    ∙ sym (other_front c.args.tag.now c.args.range.now
    (λ same. true≢false (sym (c.eq_ignore_ascii_case.ensures.test.1 same) ∙ c.if-eq_ignore_ascii_case.false)))
