use Rattle.rsp_scope.proofs.peaks.first_fresh.Goals as goal

pub returns-then-is_stale_to-clause-stale : goal.returns-then-is_stale_to-clause-stale
returns-then-is_stale_to-clause-stale c = c.is_stale_to.ensures c.if-is_stale_to.true
