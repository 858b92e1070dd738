use Rattle.rsp_lex.proofs.GapLaws.{gap_boundary}
use Rattle.rsp_lex.proofs.lexing.behind_gap.Goals as goal

pub range_from-requires : goal.range_from-requires
range_from-requires c = λ some. rw c.gap_len-gap.ensures.value (gap_boundary c.args.text.now c.utf8.text)
