use Rattle.std.proofs.lemmas.Result.{err_from_is_err_and}
use Rattle.rsp_written.specs.TripleReadings.{value_read}
use Rattle.rsp_read_values.proofs.RowLaws.{value_more_at, value_fails_at, value_end_at}
use Rattle.rsp_read_values.proofs.value_blocks.values_of_row.Goals as goal

pub returns-in_err-more : goal.returns-in_err-more
returns-in_err-more c =
    let p = err_from_is_err_and c.from_residual.result c.from_residual.ensures.1 in
    rw (p.1, p.2) (value_fails_at value_read _ c.loop.counter _ _ _ c.in_err-more.field-0.0 c.loop-test.true c.in_err-more.ensures c.loop.invariant)

pub loop-preserved : goal.loop-preserved
loop-preserved c = value_more_at value_read _ c.loop.counter _ _ _ _ _ c.loop-test.true c.in_ok-more.ensures c.loop.invariant

pub returns : goal.returns
returns c = value_end_at value_read _ c.loop.counter _ _ _ c.loop-test.false c.loop.invariant
