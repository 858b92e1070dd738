use Rattle.std.proofs.Common.{sym, ◌∙◌}
use Rattle.std.proofs.lemmas.Result.{IfOk-weaker}
use Rattle.rsp_events.proofs.Reading.{reads_line}
use Rattle.rsp_events.proofs.blocks.Blocks.end_line.Goals as goal

pub returns-clause-reads : goal.returns-clause-reads
returns-clause-reads c =
    IfOk-weaker _ _ _
    (λ given takes. reads_line _ _ _ _ _ c.take_begun_line.ensures.after (λ l is ended. c.held-line.ensures l (is ∙ sym c.take_begun_line.ensures.line) ended) takes)
    c.take_line.ensures.takes
