use Rattle.std.proofs.Common.{rules}
use Rattle.rsp_scope.proofs.LaneLaws.{cleared}
use Rattle.rsp_scope.proofs.lanes.clear.Goals as goal

pub returns-clause-lane : goal.returns-clause-lane
returns-clause-lane c s = (cleared _ (λ f k lane b new g call. search rules) _ _ _ c.retain.ensures.filtered s).0

pub returns-clause-room : goal.returns-clause-room
returns-clause-room c s = (cleared _ (λ f k lane b new g call. search rules) _ _ _ c.retain.ensures.filtered s).1
