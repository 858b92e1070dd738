use Rattle.std.proofs.Common.{length}
use Rattle.rsp_numbering.proofs.scopes.+owner.Given as goal

abbrev pub decreases-owner : goal.decreases-owner
decreases-owner l = length l.at.now
