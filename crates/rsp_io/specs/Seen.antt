-- Definitions: what contracts see of a source and of a sink.
use Rattle.std.specs.Prelude.{ℕ, Bool, Option, List}

-- the bytes left, where the source tells them; the number of bytes given, up to 2^64 - 1; its count of faults; and whether it
-- never fails
pub record SourceSeen : Type 0 where
  pub left : Option (List ℕ)
  pub given : ℕ
  pub faults : ℕ
  pub sure : Bool

-- the bytes taken, and the room, where the sink tells them; and its count of faults
pub record SinkSeen : Type 0 where
  pub taken : Option (List ℕ)
  pub room : Option ℕ
  pub faults : ℕ
