use Rattle.std.proofs.Common.{◌≡◌, ◌+◌, ◌∙◌, sym, rules}
use Rattle.rsp_words.specs.Playing.{replay_for}
use Rattle.rsp_words.specs.Words.{names_behind}
use Rattle.rsp_words.proofs.Places.{after_first}
use Rattle.rsp_words.proofs.replay.name_at.Goals as goal

pub returns-in-Some : goal.returns-in-Some
returns-in-Some c =
    let is : c.args.place ≡ c.in-Some.behind + 1 = search rules in
    c.name_behind.ensures ∙ sym (after_first c.args.replay.now.query.now (names_behind (replay_for c.args.replay.now)) c.in-Some.behind c.args.place is)
