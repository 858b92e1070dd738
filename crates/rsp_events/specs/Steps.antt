-- Words of the way: what the reader does with a next line, and with some bytes.
--
-- No public clause cites this: `Blocks` is the definition, and the laws that join the two are proved.
use Rattle.std.specs.Prelude.{◌≡◌, ℕ, ◌+◌, if◌then◌else◌, List, [], ◌∷◌, ◌++◌, length}
use Rattle.rsp_events.specs.declared.event.Block.{Block}
use Rattle.rsp_events.specs.declared.begun.HeldLine.{HeldLine}
use Rattle.rsp_events.specs.declared.blocks.Place.{Place}
use Rattle.rsp_events.specs.declared.blocks.Place.TheVariants.{Passed, Inside, Last}
use Rattle.rsp_events.specs.Lines.{Line, passes, begins_body, ends_body}
use Rattle.rsp_events.specs.Reader.{Reader, HasRead}
use Rattle.rsp_events.specs.Blocks.{numbered_from, whole_blocks}
use Rattle.rsp_events.specs.Begun.{begun_block_of, held_line_of}
use Rattle.rsp_events.specs.Instants.{AllTimed}

-- where a line stands, behind the lines of the group that has begun
abbrev pub place_of : List Line → Line → Place
place_of [] line = if passes line then Passed else (if begins_body line then Inside else Last)
place_of (head ∷ body) line = if ends_body line then Last else Inside

-- the group that has begun behind a line
abbrev pub begun_at : Place → List Line → Line → List Line
begun_at Passed group line = group
begun_at Inside group line = group ++ (line ∷ [])
begun_at Last group line = []

-- the group that the line ends, if it does
abbrev pub closed_at : Place → List Line → Line → List (List Line)
closed_at Passed group line = []
closed_at Inside group line = []
closed_at Last group line = (group ++ (line ∷ [])) ∷ []

-- the group that has begun, if one has
abbrev pub begun_groups : List Line → List (List Line)
begun_groups [] = []
begun_groups (head ∷ body) = (head ∷ body) ∷ []

-- a line was read that is kept as this, and the block given that it ends
pub record TakesLine (old : Reader) (held : HeldLine) (new : Reader) (given : List Block) : Type 0 where
  pub document : new.document ≡ old.document
  pub line : new.line ≡ old.line
  pub lines : new.lines ≡ old.lines + 1
  pub block : (group : List Line) (line : Line) → begun_block_of group ≡ old.block → held_line_of line ≡ held
      → line.number ≡ old.lines + 1 → new.block ≡ begun_block_of (begun_at (place_of group line) group line)
  pub blocks : (group : List Line) (line : Line) → begun_block_of group ≡ old.block → held_line_of line ≡ held
      → line.number ≡ old.lines + 1
      → given ≡ numbered_from old.document old.number (closed_at (place_of group line) group line)
  pub number : new.number ≡ old.number + length given
  pub ready : new.spent ≡ old.spent
  pub timed : AllTimed given

-- these bytes were read, and their blocks given
pub record Reads (old : Reader) (piece : List ℕ) (new : Reader) (given : List Block) : Type 0 where
  pub document : new.document ≡ old.document
  pub read : (before : List ℕ) → HasRead old before → HasRead new (before ++ piece)
  pub blocks : (before : List ℕ) → HasRead old before
      → whole_blocks old.document (before ++ piece) ≡ whole_blocks old.document before ++ given
  pub timed : AllTimed given
