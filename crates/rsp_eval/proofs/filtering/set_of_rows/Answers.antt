use Rattle.rsp_multiset.specs.RowSame.{row_decides}
use Rattle.rsp_terms.specs.Same.{term_same}
use Rattle.rsp_values.proofs.Once.{once_at_start, one_more_once}
use Rattle.rsp_eval.proofs.filtering.set_of_rows.Goals as goal

pub loop-row-init : goal.loop-row-init
loop-row-init c =
    once_at_start (row_decides term_same) _ _ _ c.new-set.ensures.empty c.into_iter-row-iterator.ensures.into_iter_gives.0

pub loop-row-preserved : goal.loop-row-preserved
loop-row-preserved c =
    one_more_once (row_decides term_same) _ _ _ _ _ _ c.in-Some.ensures.steps.0 c.in_ok-insert.ensures.keys c.loop-row.invariant
