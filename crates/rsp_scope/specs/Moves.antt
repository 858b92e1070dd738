-- Words of the way: how a window's content and its counts follow the accepted items.
use Rattle.std.specs.Prelude.{◌≡◌, ℕ, zero, suc, ⊤, ◌≤◌, Bool, true, false, ◌&&◌, ◌||◌, nat_lt, nat_le, Option, None, Some}
use Rattle.std.specs.Prelude.{List, length, bytes_eq, ℤ, pos, negsuc, ◌+ℤ◌}
use Rattle.std.specs.Option.{option_map, option_map_or}
use Rattle.rsp_spec.specs.Windows.{active_window, opening}
use Rattle.rsp_multiset.specs.Weights.{sum_z, only, times, weight}
use Rattle.rsp_terms.specs.declared.statement.Triple.{Triple}
use Rattle.rsp_terms.specs.declared.statement.Fact.{Fact}
use Rattle.rsp_terms.specs.Same.{fact_eq}
use Rattle.rsp_scope.specs.Contents.{Accepted, Numbered, Watch, content_at, facts_in, numbered}
use Rattle.rsp_scope.specs.declared.item.Item.{Item}
use Rattle.rsp_scope.specs.declared.gate.Gate.{Gate}

-- an item of a content, by time and number
abbrev pub Placed : Type 0
Placed = (ℕ × ℕ) × List Triple

-- 1 where there are any
abbrev pub presence : ℤ → ℤ
presence (pos zero) = pos 0
presence (pos (suc n)) = pos 1
presence (negsuc n) = pos 1

-- each of the facts counted by n
abbrev pub counted_by : ℤ → List Fact → Fact → ℤ
counted_by n facts q = sum_z (λ fact. only (fact_eq q fact) n) facts

-- how often the content lists a fact
abbrev pub listed : ℕ → List Placed → Fact → ℤ
listed k placed q = sum_z (λ (e : Placed). times fact_eq (facts_in k e.1) q) placed

-- the change tells which entries came to be counted, and which ceased to be
abbrev pub Tells : {E : Type 0} → (E → E → Bool) → List (E × ℤ) → List (E × ℤ) → List (E × ℤ) → List (E × ℤ) → Type 0
Tells {E} eq counts counts' change change' = (q : E)
    → weight eq change' q +ℤ presence (weight eq counts q) ≡ weight eq change q +ℤ presence (weight eq counts' q)

-- the counts follow the content, and the change tells what they gain and lose
pub record Moves (k : ℕ) (placed placed' : List Placed) (counts counts' change change' : List (Fact × ℤ)) : Type 0 where
  pub follows : (q : Fact) → weight fact_eq counts' q +ℤ listed k placed q ≡ weight fact_eq counts q +ℤ listed k placed' q
  pub tells : Tells fact_eq counts counts' change change'

-- the time is after the opening of the active window; none is, where no window is active
abbrev pub is_after : Option ℕ → ℕ → Bool
is_after opening time = option_map_or (λ o. nat_lt o time) opening false

-- the item wasn't in the content of the last move, which was before it was accepted or before its time
abbrev pub is_fresh : ℕ → Option ℕ → ℕ → ℕ → Bool
is_fresh seen since number time = nat_le seen number || option_map_or (λ t. nat_lt t time) since true

-- the item enters the content
abbrev pub enters : Gate → Item → Bool
enters gate item = nat_le gate.first item.number
    && (bytes_eq item.stream gate.stream
    && (is_after gate.opening item.time && (nat_le item.time gate.until && is_fresh gate.seen gate.since item.number item.time)))

-- the gate of the move to t of a window that was moved to `since` when so many items were accepted
abbrev pub gate_of : Watch → Option ℕ → ℕ → ℕ → Gate
gate_of watch since seen t =
    record {
      stream = watch.stream;
      first = watch.first;
      opening = option_map (opening watch.shape) (active_window watch.shape t);
      until = t;
      seen = seen;
      since = since;
    }

abbrev pub placed_as : Item → Placed
placed_as item = ((item.time, item.number), item.graph)

-- what is left of a content, and what entered, together
abbrev pub TakesIn : Gate → List Item → List Placed → List Placed → Type 0
TakesIn gate items placed placed' = (f : Placed → ℤ)
    → sum_z f placed' ≡ sum_z f placed +ℤ sum_z (λ (item : Item). only (enters gate item) (f (placed_as item))) items

-- the instant isn't before the last one
abbrev pub IsReached : Option ℕ → ℕ → Type 0
IsReached None t = ⊤
IsReached (Some at) t = at ≤ t

-- a window as of its last move: the instant, how many items were accepted, the content and the counts of its facts
pub record Followed : Type 0 where
  pub watch : Watch
  pub at : Option ℕ
  pub accepted : ℕ
  pub placed : List Placed
  pub counts : List (Fact × ℤ)

-- it is what the window saw of these items
pub record HasSeen (seen : Followed) (items : List Accepted) : Type 0 where
  pub accepted : seen.accepted ≡ length items
  pub placed : (f : ℕ → ℕ → List Triple → ℤ) → sum_z (λ (e : Placed). f e.0.0 e.0.1 e.1) seen.placed
      ≡ sum_z (λ (n : Numbered). f n.item.time n.number n.item.graph) (content_at seen.watch seen.at (numbered 0 items))
  pub counted : (q : Fact) → weight fact_eq seen.counts q ≡ listed seen.watch.spot seen.placed q
