use Rattle.std.proofs.Common.{◌≡◌, drop}
use Rattle.rsp_numbering.specs.Seeing.{scopes_of}
use Rattle.rsp_numbering.specs.SelectionSteps.{behind_names}
use Rattle.rsp_numbering.proofs.names.of_names.Given as goal

abbrev pub invariant-loop-each : goal.invariant-loop-each
invariant-loop-each l =
    behind_names (scopes_of l.at) l.before (drop l.each-index l.names) ≡ behind_names (scopes_of l.at) l.fn.before l.names
