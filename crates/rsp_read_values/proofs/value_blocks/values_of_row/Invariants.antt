use Rattle.std.proofs.Common.{◌≡◌, ◌-◌}
use Rattle.rsp_phrases.specs.Gathering.{gathered, as_read}
use Rattle.rsp_written.specs.TripleReadings.{value_read}
use Rattle.rsp_read_values.specs.Rows.{so_many_read}
use Rattle.rsp_read_values.proofs.value_blocks.values_of_row.Given as goal

abbrev pub invariant-loop : goal.invariant-loop
invariant-loop l = gathered as_read l.row.items (so_many_read value_read (l.count - l.counter) l.rest) ≡ so_many_read value_read l.count l.tokens
