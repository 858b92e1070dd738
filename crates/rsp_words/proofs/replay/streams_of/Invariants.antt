use Rattle.rsp_words.proofs.Optional.{Streaming}
use Rattle.rsp_words.proofs.replay.streams_of.Given as goal

abbrev pub invariant-loop-word : goal.invariant-loop-word
invariant-loop-word l = Streaming l.words l.word-index l.streams.items
