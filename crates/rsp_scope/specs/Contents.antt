-- Definitions: what a query sees of a window at an instant (SECRET, content; RSP-QL, active window). Times are in milliseconds
-- since 1970.
use Rattle.std.specs.Prelude.{ℕ, ◌+◌, Bool, ◌&&◌, nat_le, Option, None, Some, List, [], ◌∷◌, filter, map, bytes_eq}
use Rattle.std.specs.List.{flat_map}
use Rattle.rsp_spec.specs.Windows.{Shape, in_content}
use Rattle.rsp_multiset.specs.RowLists.{each_once}
use Rattle.rsp_terms.specs.declared.statement.Triple.{Triple}
use Rattle.rsp_terms.specs.declared.statement.Fact.{Fact}
use Rattle.rsp_terms.specs.declared.statement.Spot.TheVariants as spot
use Rattle.rsp_terms.specs.Same.{triple_eq}

-- an accepted item
pub record Accepted : Type 0 where
  pub stream : List ℕ
  pub time : ℕ
  pub graph : List Triple

-- and its number, which is its place among all, from 0
pub record Numbered : Type 0 where
  pub number : ℕ
  pub item : Accepted

-- the items with the numbers from n on
abbrev pub numbered : ℕ → List Accepted → List Numbered
numbered n [] = []
numbered n (item ∷ items) = record { number = n; item = item } ∷ numbered (n + 1) items

-- a query's window over a stream, by its index in the query; it sees the items from number `first` on
pub record Watch : Type 0 where
  pub shape : Shape
  pub spot : ℕ
  pub stream : List ℕ
  pub first : ℕ

-- the window sees the item at t: its stream is the window's, and its time lies in the active window, up to t
abbrev pub sees : Watch → ℕ → Numbered → Bool
sees watch t entry =
    nat_le watch.first entry.number && (bytes_eq entry.item.stream watch.stream && in_content watch.shape t entry.item.time)

-- the window's content at t, in the order of acceptance
abbrev pub content : Watch → ℕ → List Numbered → List Numbered
content watch t entries = filter (sees watch t) entries

-- before the first instant every content is empty
abbrev pub content_at : Watch → Option ℕ → List Numbered → List Numbered
content_at watch None entries = []
content_at watch (Some t) entries = content watch t entries

-- the graph of a content: its distinct triples
abbrev pub graph_of : List Numbered → List Triple
graph_of entries = each_once triple_eq (flat_map (λ (entry : Numbered). entry.item.graph) entries)

-- a triple as a fact of window k
abbrev pub fact_in : ℕ → Triple → Fact
fact_in k triple = record { spot = spot.Window k; triple = triple }

abbrev pub facts_in : ℕ → List Triple → List Fact
facts_in k triples = map (fact_in k) triples

-- the window's graph at an instant, as facts, where these items were accepted
abbrev pub window_facts : Watch → Option ℕ → List Accepted → List Fact
window_facts watch at items = facts_in watch.spot (graph_of (content_at watch at (numbered 0 items)))
