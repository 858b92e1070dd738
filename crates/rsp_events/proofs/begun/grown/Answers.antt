use Rattle.std.proofs.Common.{◌+◌, ◌∷◌, [], ◌++◌, ◌∙◌}
use Rattle.std.specs.Prelude.{if◌then◌else◌}
use Rattle.rsp_events.proofs.GrownBlocks.{block_by, grown_within}
use Rattle.rsp_events.proofs.begun.grown.Goals as goal

pub returns-in_ok-texts-in-Within : goal.returns-in_ok-texts-in-Within
returns-in_ok-texts-in-Within c = λ group l at_group at_line number ends.
    let first = c.in-Within.first in
    let texts = c.in-Within.texts in
    let size = c.in-Within.before + c.in-Kept.size in
    let ended = c.either-ended.ensures in
    c.within-in-Within.ensures
    ∙ (λ i. block_by first (c.in_ok-texts-in-Within.ensures i) c.either-ended.result size)
    ∙ (λ i. block_by first (if ended i then texts else texts ++ c.in-Kept.text ∷ []) (ended i) size)
    ∙ grown_within group l first texts c.in-Within.ended c.in-Within.before c.in-Kept.text c.in-Kept.size c.args.ends
    (at_group ∙ c.in-Within.is) (at_line ∙ c.in-Kept.is) ends
