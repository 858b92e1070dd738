-- Words of the way: what contracts see of each object, in memory and over the runtime: a record of what its `new` and its calls
-- name. `piece` bounds the bytes of a call; `failing` are the numbers of the calls, from 0, that fail, and `calls` is the number
-- of the next. What an object tells as a source, a shelf or a sink is made of these (Seen).
use Rattle.std.specs.Prelude.{ℕ, Bool, List}

pub record SteadySourceState : Type 0 where
  pub left : List ℕ
  pub given : ℕ
  pub piece : ℕ

pub record SteadyShelfState : Type 0 where
  pub files : List (List ℕ × List ℕ)
  pub left : List ℕ
  pub given : ℕ
  pub faults : ℕ
  pub piece : ℕ

pub record SteadySinkState : Type 0 where
  pub taken : List ℕ
  pub room : ℕ
  pub faults : ℕ
  pub piece : ℕ

pub record MemorySourceState : Type 0 where
  pub left : List ℕ
  pub given : ℕ
  pub faults : ℕ
  pub calls : ℕ
  pub failing : List ℕ
  pub piece : ℕ

pub record MemoryShelfState : Type 0 where
  pub files : List (List ℕ × List ℕ)
  pub left : List ℕ
  pub given : ℕ
  pub faults : ℕ
  pub calls : ℕ
  pub failing : List ℕ
  pub piece : ℕ

-- `space` is the room that is left, which a MemorySink doesn't tell as a sink
pub record MemorySinkState : Type 0 where
  pub taken : List ℕ
  pub space : ℕ
  pub faults : ℕ
  pub calls : ℕ
  pub failing : List ℕ
  pub piece : ℕ

pub record StdSourceState : Type 0 where
  pub given : ℕ
  pub faults : ℕ

-- `picked` is whether a pick succeeded so far
pub record DirShelfState : Type 0 where
  pub picked : Bool
  pub given : ℕ
  pub faults : ℕ

pub record StdSinkState : Type 0 where
  pub faults : ℕ
