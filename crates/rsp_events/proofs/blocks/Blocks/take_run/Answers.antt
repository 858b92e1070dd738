use Rattle.std.proofs.Common.{ap, sym, ◌∙◌}
use Rattle.rsp_events.specs.Reader.{Reader}
use Rattle.rsp_events.proofs.Reading.{reads_run}
use Rattle.rsp_events.proofs.blocks.Blocks.take_run.Goals as goal

pub returns-clause-reads : goal.returns-clause-reads
returns-clause-reads c =
    let kept = c.keep_line.ensures in
    let taken = c.take_begun_line-line.ensures.after in
    reads_run _ _ _ c.requires
    (λ bytes is. ap (λ (r : Reader). r.line) kept ∙ c.in_ok-line.ensures bytes (is ∙ sym c.take_begun_line-line.ensures.line))
    (ap (λ (r : Reader). r.document) kept ∙ ap (λ (r : Reader). r.document) taken)
    (ap (λ (r : Reader). r.block) kept ∙ ap (λ (r : Reader). r.block) taken)
    (ap (λ (r : Reader). r.lines) kept ∙ ap (λ (r : Reader). r.lines) taken)
    (ap (λ (r : Reader). r.number) kept ∙ ap (λ (r : Reader). r.number) taken)
    (ap (λ (r : Reader). r.spent) kept ∙ ap (λ (r : Reader). r.spent) taken)
