use Rattle.std.proofs.Common.{None, Some}
use Rattle.rsp_words.proofs.Places.{found_at}
use Rattle.rsp_words.proofs.Optional.{file_at}
use Rattle.rsp_words.proofs.replay.name_of_stream.Goals as goal

pub returns-in-Some : goal.returns-in-Some
returns-in-Some c =
    file_at c.args.streams.now c.args.place (Some c.in-Some.stream.now) (found_at _ _ (Some c.in-Some.stream) c.in-Some.ensures.lookup)

pub returns-in-None : goal.returns-in-None
returns-in-None c = file_at c.args.streams.now c.args.place None (found_at _ _ None c.in-None.ensures.lookup)
