use Rattle.std.proofs.Common.{arith, rules}
use Rattle.rsp_words.proofs.Cutting.{cut_at_last}
use Rattle.rsp_words.proofs.replay.stream_of.Goals as goal

pub returns-in-Some : goal.returns-in-Some
returns-in-Some c =
    let cut = cut_at_last 61 c.args.word.now _ c.rsplit_once.ensures.cases (omega arith) in
    rw (← cut) (grind rules)

pub returns-in-None : goal.returns-in-None
returns-in-None c =
    let cut = cut_at_last 61 c.args.word.now _ c.rsplit_once.ensures.cases (omega arith) in
    rw (← cut) (grind rules)
