-- Words of the way: what a log that is read a piece at a time has given.
use Rattle.std.specs.Prelude.{◌≡◌, ℕ, suc, ◌+◌, ◌-◌, ◌<◌, ◌≤◌, Bool, true, false, if◌then◌else◌, Option, None, Some, List, ◌++◌}
use Rattle.std.specs.Prelude.{length, map}
use Rattle.std.specs.Io.KnownBytes.{IsAtEnd}
use Rattle.rsp_spec.specs.Faults.{Rose}
use Rattle.rsp_io.specs.Seen.{SourceSeen}
use Rattle.rsp_events.specs.declared.event.Block.{Block}
use Rattle.rsp_events.specs.Blocks.{blocks, whole_blocks}
use Rattle.rsp_events.specs.Reader.{Reader, HasRead}
use Rattle.rsp_modes.specs.declared.feed.Cut.{Cut}
use Rattle.rsp_modes.specs.declared.feed.Cut.TheVariants.{Failed, TooLong, Memory}
use Rattle.rsp_modes.specs.Output.{Given, a_block}
use Rattle.rsp_modes.specs.Sources.{Took}

-- however a document goes on, its blocks begin with those that have ended
abbrev pub Begins : ℕ → Type 0
Begins document =
    (bytes more : List ℕ) → (rest : List Block) × (blocks document (bytes ++ more) ≡ whole_blocks document bytes ++ rest)

-- ---- what was given

-- the blocks that have ended in the bytes that were taken
pub record Reads (most taken : ℕ) (reader : Reader) (start now : SourceSeen) (given : List Given) : Type 0 where
  pub bytes : List ℕ
  pub count : taken ≡ length bytes
  pub short : taken ≤ most
  pub took : Took start now bytes
  pub faultless : now.faults ≡ start.faults
  pub sure : now.sure ≡ start.sure
  pub read : HasRead reader bytes
  pub begins : Begins reader.document
  pub blocks : given ≡ map a_block (whole_blocks reader.document bytes)

-- all blocks
pub record Finishes (most document : ℕ) (start now : SourceSeen) (given : List Given) : Type 0 where
  pub bytes : List ℕ
  pub short : length bytes ≤ most
  pub took : Took start now bytes
  pub faultless : now.faults ≡ start.faults
  pub at_end : IsAtEnd now.left
  pub blocks : given ≡ map a_block (blocks document bytes)

abbrev pub LogGave : Bool → ℕ → ℕ → Reader → SourceSeen → SourceSeen → List Given → Type 0
LogGave false most taken reader start now given = Reads most taken reader start now given
LogGave true most taken reader start now given = Finishes most reader.document start now given

-- ---- the ends

-- a read failed
pub record CantGoOn (most document : ℕ) (start now : SourceSeen) (given : List Given) : Type 0 where
  pub bytes : List ℕ
  pub short : length bytes ≤ most
  pub took : Took start now bytes
  pub rose : Rose start.faults now.faults
  pub unsure : start.sure ≡ false
  pub begins : Begins document
  pub blocks : given ≡ map a_block (whole_blocks document bytes)

-- there are more bytes than may be; the first so many were worked off
pub record GoesTooFar (most document : ℕ) (start now : SourceSeen) (given : List Given) : Type 0 where
  pub bytes : List ℕ
  pub last : List ℕ
  pub whole : length bytes ≡ most
  pub more : 0 < length last
  pub took : Took start now (bytes ++ last)
  pub faultless : now.faults ≡ start.faults
  pub begins : Begins document
  pub blocks : given ≡ map a_block (whole_blocks document bytes)

-- memory was refused for what the last bytes end
pub record LacksMemory (most document : ℕ) (start now : SourceSeen) (given : List Given) : Type 0 where
  pub bytes : List ℕ
  pub last : List ℕ
  pub short : length (bytes ++ last) ≤ most
  pub took : Took start now (bytes ++ last)
  pub faultless : now.faults ≡ start.faults
  pub begins : Begins document
  pub blocks : given ≡ map a_block (whole_blocks document bytes)

abbrev pub LogEnded : ℕ → ℕ → SourceSeen → SourceSeen → List Given → Option Cut → Type 0
LogEnded most document start now given None = Finishes most document start now given
LogEnded most document start now given (Some Failed) = CantGoOn most document start now given
LogEnded most document start now given (Some TooLong) = GoesTooFar most document start now given
LogEnded most document start now given (Some Memory) = LacksMemory most document start now given

-- ---- a turn

-- each read takes a byte at least
abbrev pub log_turns : Bool → ℕ → ℕ → ℕ
log_turns at_end most taken = if at_end then 0 else suc (most - taken)

-- a piece more was taken, and these blocks end in it
pub record TakesPiece (most taken taken' : ℕ) (reader reader' : Reader) (piece : List ℕ) (ended : List Block) : Type 0 where
  pub short : length piece ≤ most - taken
  pub count : taken' ≡ taken + length piece
  pub document : reader'.document ≡ reader.document
  pub read : (bytes : List ℕ) → HasRead reader bytes → HasRead reader' (bytes ++ piece)
  pub blocks : (bytes : List ℕ) → HasRead reader bytes
      → whole_blocks reader.document (bytes ++ piece) ≡ whole_blocks reader.document bytes ++ ended

-- why a piece of so many bytes isn't taken
abbrev pub RefusesPiece : Cut → ℕ → ℕ → ℕ → Type 0
RefusesPiece TooLong most taken count = taken ≡ most
RefusesPiece Memory most taken count = count ≤ most - taken
RefusesPiece Failed most taken count = ⊥
