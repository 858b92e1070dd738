-- Definitions: what a query sees of its windows at an instant (RSP-QL, active window; SECRET, content): the graphs of all its
-- windows.
use Rattle.std.specs.Prelude.{ℕ, Some, List, map}
use Rattle.std.specs.List.{enumerate_from, flat_map}
use Rattle.rsp_terms.specs.declared.statement.Fact.{Fact}
use Rattle.rsp_scope.specs.Contents.{Accepted, Watch, window_facts}
use Rattle.rsp_engine.specs.declared.live_query.StreamWindow.{StreamWindow}

-- windows over streams, numbered from k on, as a query watches them that sees the items from number `first` on
abbrev pub watches_from : ℕ → ℕ → List StreamWindow → List Watch
watches_from first k windows =
    map (λ (x : ℕ × StreamWindow). record { shape = x.1.shape; spot = x.0; stream = x.1.stream; first = first })
    (enumerate_from k windows)

abbrev pub watches : ℕ → List StreamWindow → List Watch
watches first windows = watches_from first 0 windows

-- what a query with these windows sees of the accepted items at t: their graphs
abbrev pub facts_over : List Accepted → ℕ → List StreamWindow → ℕ → List Fact
facts_over items first windows t = flat_map (λ (watch : Watch). window_facts watch (Some t) items) (watches first windows)
