use Rattle.std.proofs.Common.{◌≡◌, ◌++◌, drop}
use Rattle.rsp_numbering.specs.Seeing.{scopes_of}
use Rattle.rsp_numbering.specs.SelectionSteps.{behind_names, numbers_of}
use Rattle.rsp_numbering.proofs.items.numbers_of.Given as goal

abbrev pub invariant-loop-name : goal.invariant-loop-name
invariant-loop-name l = record {
  numbers : l.made ++ numbers_of (scopes_of l.at) l.before (drop l.name-index l.names)
      ≡ numbers_of (scopes_of l.at) l.fn.before l.names;
  behind : behind_names (scopes_of l.at) l.before (drop l.name-index l.names)
      ≡ behind_names (scopes_of l.at) l.fn.before l.names;
}
