use Rattle.std.proofs.Common.{◌≡◌, ◌++◌, drop, map}
use Rattle.rsp_words.specs.Playing.{values_in}
use Rattle.rsp_words.proofs.options.with_values.Given as goal

abbrev pub invariant-loop-word : goal.invariant-loop-word
invariant-loop-word l =
    map (λ value. value.now) l.values.items ++ drop l.word-index l.words ≡ values_in l.fn.so_far ++ l.words
