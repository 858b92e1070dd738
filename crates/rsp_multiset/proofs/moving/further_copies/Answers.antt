use Rattle.rsp_multiset.proofs.Signs.{above-negative}
use Rattle.rsp_multiset.proofs.moving.further_copies.Goals as goal

pub returns-then-is_negative-clause-none : goal.returns-then-is_negative-clause-none
returns-then-is_negative-clause-none c = above-negative c.args.count (c.is_negative.ensures.0 c.if-is_negative.true)
