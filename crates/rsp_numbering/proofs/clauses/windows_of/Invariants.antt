use Rattle.std.proofs.Common.{◌≡◌, ◌++◌, map, drop}
use Rattle.std.specs.List.{list_all}
use Rattle.rsp_written.specs.GroupMeanings as written
use Rattle.rsp_numbering.specs.Clauses.{clause_of}
use Rattle.rsp_numbering.specs.Limits.{is_within}
use Rattle.rsp_numbering.proofs.clauses.windows_of.Given as goal

abbrev pub invariant-loop-window : goal.invariant-loop-window
invariant-loop-window l = record {
  within : list_all is_within (map written.window_of (drop l.window-index l.windows))
      ≡ list_all is_within (map written.window_of l.windows);
  clauses : l.made.items ++ map (clause_of l.words) (map written.window_of (drop l.window-index l.windows))
      ≡ map (clause_of l.words) (map written.window_of l.windows);
}
