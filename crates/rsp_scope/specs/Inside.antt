-- Words of the way: what the fields of the kept items say of each other.
use Rattle.std.specs.Prelude.{◌≡◌, ◌≤◌, ◌*◌, length}
use Rattle.rsp_scope.specs.Kept.{Kept, needed, triples_of}
use Rattle.rsp_scope.specs.Moves.{Followed}
use Rattle.rsp_scope.specs.Lanes.{AreFiled}
use Rattle.rsp_scope.specs.Order.{AreInOrder}
use Rattle.rsp_scope.specs.Runs.{AreTied}
use Rattle.rsp_scope.specs.declared.streams.Streams.TheInside.{Inside}
use Rattle.rsp_scope.specs.declared.contents.Contents.TheInside.{Inside as Window}

-- kept are the items that end at the cut or later; what has left may still stand in the queue
abbrev pub kept_of : Inside → Kept
kept_of s = record { accepted = s.accepted; items = needed s.cut s.items.items }

pub record IsStreams (s : Inside) : Type 0 where
  pub count : s.count ≡ length (needed s.cut s.items.items)
  pub held : s.held ≡ triples_of (needed s.cut s.items.items)
  pub tied : AreTied s.ends.items (needed s.cut s.items.items)
  pub order : AreInOrder s.accepted s.items.items
  pub filed : AreFiled s.lanes.entries s.items.items
  -- what has left is no more than what is kept
  pub few : length s.items.items ≤ 2 * s.count

abbrev pub followed_of : Window → Followed
followed_of s =
    record {
      watch = record { shape = s.window; spot = s.tally.spot; stream = s.stream; first = s.first };
      at = s.at;
      accepted = s.accepted;
      placed = s.tally.content.entries;
      counts = s.tally.counts;
    }
