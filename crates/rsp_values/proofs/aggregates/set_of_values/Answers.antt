use Rattle.rsp_multiset.specs.RowSame.{cell_decides}
use Rattle.rsp_terms.specs.Same.{term_same}
use Rattle.rsp_values.proofs.Once.{once_at_start, one_more_once}
use Rattle.rsp_values.proofs.aggregates.set_of_values.Goals as goal

pub loop-value-init : goal.loop-value-init
loop-value-init c =
    once_at_start (cell_decides term_same) _ _ _ c.new-set.ensures.empty c.into_iter-value-iterator.ensures.into_iter_gives.0

pub loop-value-preserved : goal.loop-value-preserved
loop-value-preserved c =
    one_more_once (cell_decides term_same) _ _ _ _ _ _
    c.in-Some.ensures.steps.0 c.in_ok-insert.ensures.keys c.loop-value.invariant
