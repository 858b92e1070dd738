use Rattle.std.proofs.Common.{◌≡◌, Some, rules}
use Rattle.rsp_words.specs.Playing.{replay_for}
use Rattle.rsp_words.specs.Words.{generate, mode_of, run}
use Rattle.rsp_call.proofs.top.rsp.Goals as goal

pub returns-in-Some-Generate-clause-answer : goal.returns-in-Some-Generate-clause-answer
returns-in-Some-Generate-clause-answer g c =
    let asked : mode_of c.args.words.now ≡ Some (generate c.in-Some-Generate.count) = search rules in
    rw asked (c.generate.ensures.text _)

pub returns-in-Some-Generate-clause-cost : goal.returns-in-Some-Generate-clause-cost
returns-in-Some-Generate-clause-cost g c =
    let asked : mode_of c.args.words.now ≡ Some (generate c.in-Some-Generate.count) = search rules in
    rw asked c.generate.ensures.cost

pub returns-in-Some-Run-clause-answer : goal.returns-in-Some-Run-clause-answer
returns-in-Some-Run-clause-answer g c =
    let asked : mode_of c.args.words.now ≡ Some (run (replay_for c.in-Some-Run.asked)) = search rules in
    rw asked c.replay.ensures.files
