use Rattle.std.proofs.Common.{◌≡◌, length}
use Rattle.rsp_words.specs.Playing.{options, options_of}
use Rattle.rsp_words.proofs.options.read_options.Given as goal

abbrev pub invariant-words : goal.invariant-words
invariant-words l = options l.so_far l.rest ≡ options_of l.words

abbrev pub decreases-words : goal.decreases-words
decreases-words l = length l.rest
