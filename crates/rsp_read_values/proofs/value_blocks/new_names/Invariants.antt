use Rattle.std.proofs.Common.{◌≡◌, drop, length, reverse}
use Rattle.std.specs.Str.{bytes_eq}
use Rattle.rsp_phrases.specs.Gathering.{gathered, as_read}
use Rattle.rsp_phrases.specs.Readers.{distinct_read}
use Rattle.rsp_written.specs.Grammar.{name_if_variable}
use Rattle.rsp_written.specs.TripleReadings.{columns_read}
use Rattle.rsp_read_values.proofs.value_blocks.new_names.Given as goal

abbrev pub invariant-loop-said : goal.invariant-loop-said
invariant-loop-said l =
    (length l.names.keys ≡ l.said-index)
    × (gathered as_read l.names.keys (distinct_read bytes_eq name_if_variable (reverse l.names.keys) (drop l.said-index l.tokens)) ≡ columns_read l.tokens)
