use Rattle.std.proofs.Common.{sym}
use Rattle.rsp_text.proofs.InstantLaws.{instant_by, too_short}
use Rattle.rsp_text.proofs.instants.instant.Goals as goal

pub returns-then-text-lt19 : goal.returns-then-text-lt19
returns-then-text-lt19 c = sym (too_short c.args.text.now c.if-text-lt19.true)

pub returns : goal.returns
returns c =
    instant_by c.args.text.now _ _ _ _ c.split_at.ensures.front c.split_at.ensures.back c.fraction-part.ensures.value c.instant_of.ensures
