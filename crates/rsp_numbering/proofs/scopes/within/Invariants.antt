use Rattle.std.proofs.Common.{◌≡◌, ◌++◌, drop}
use Rattle.rsp_written.specs.GroupMeanings.{projection_of}
use Rattle.rsp_numbering.specs.Naming.{scope}
use Rattle.rsp_numbering.specs.Seeing.{scopes_of}
use Rattle.rsp_numbering.proofs.scopes.within.Given as goal

abbrev pub invariant-loop-outer : goal.invariant-loop-outer
invariant-loop-outer l =
    scopes_of l.scopes.items ++ scopes_of (drop l.outer-index l.at)
    ≡ scope l.number (projection_of l.projection) (scopes_of l.at)
