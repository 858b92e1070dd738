use Rattle.std.proofs.Common.{◌≡◌, length}
use Rattle.rsp_words.specs.LogWords.{log_ahead}
use Rattle.rsp_words.specs.Words.{log_of}
use Rattle.rsp_words.proofs.log.log_of.Given as goal

abbrev pub invariant-words : goal.invariant-words
invariant-words l = log_ahead l.so_far l.rest ≡ log_of l.words

abbrev pub decreases-words : goal.decreases-words
decreases-words l = length l.rest
