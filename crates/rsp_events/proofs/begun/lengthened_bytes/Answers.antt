use Rattle.std.proofs.Common.{rules, ◌++◌, ◌∙◌, ◌<◌, ◌-◌, ◌≡◌, length, take, drop}
use Rattle.rsp_spec.specs.Limits.{most_block_bytes}
use Rattle.rsp_events.specs.Begun.{ending_of}
use Rattle.rsp_events.proofs.Endings.{long_now}
use Rattle.rsp_events.proofs.begun.lengthened_bytes.Goals as goal

pub returns : goal.returns
returns c low =
    let bytes = c.args.bytes in
    let run = c.args.run.now in
    let more : most_block_bytes - length bytes < length run = search rules in
    let front : c.split_at.result.0.now ≡ take (most_block_bytes - length bytes) run = search rules in
    let rest : c.split_at.result.1.now ≡ drop (most_block_bytes - length bytes) run = search rules in
    let same : ending_of (bytes ++ c.split_at.result.0.now) ≡ c.ending_of.result = search rules in
    long_now bytes run c.split_at.result.0.now c.split_at.result.1.now _ low more front rest (λ b long is. c.ending_behind.ensures b long (is ∙ same))
