-- Words of the way: what the reading of a named file answers.
use Rattle.std.specs.Prelude.{◌≡◌, ℕ, ◌<◌, ◌≤◌, IsTrue, List, Result, Ok, Err, Vec, length}
use Rattle.std.specs.Io.KnownBytes.{Consumes, IsAtEnd}
use Rattle.rsp_spec.specs.Faults.{Rose}
use Rattle.rsp_spec.specs.Limits.{most_file_bytes}
use Rattle.rsp_modes.specs.Shelves.{ShelfSeen, ReadsWhole, ReadsAll, EndsAt, CantRead, IsTooLong, LacksMemory}
use Rattle.rsp_modes.specs.declared.status.Status.{Status}
use Rattle.rsp_modes.specs.declared.status.Status.TheVariants as status
use Rattle.rsp_modes.specs.declared.reading.Unread.{Unread}
use Rattle.rsp_modes.specs.declared.reading.Unread.TheVariants.{Memory, Fault, TooLong}

-- why it isn't read, as a status
abbrev pub status_of_unread : Unread → Status
status_of_unread Memory = status.OutOfMemory
status_of_unread Fault = status.ReadFault
status_of_unread TooLong = status.TooLong

-- why it isn't read
abbrev pub Ends : Unread → ShelfSeen → ShelfSeen → List ℕ → Type 0
Ends Memory = LacksMemory most_file_bytes
Ends Fault = CantRead most_file_bytes
Ends TooLong = IsTooLong most_file_bytes

abbrev pub Reads : {A : Type 0} → ShelfSeen → ShelfSeen → List ℕ → Result (Vec ℕ A) Unread → Type 0
Reads before now name (Ok bytes) = ReadsWhole most_file_bytes before now name bytes.items
Reads before now name (Err why) = Ends why before now name

-- ---- what the reads behind a pick answer

-- these bytes were taken of those left, within the limit, and no read failed
pub record Takes (before now : ShelfSeen) (bytes : List ℕ) : Type 0 where
  pub left : Consumes before.source.left now.source.left bytes
  pub given : now.source.given ≡ length bytes
  pub short : length bytes ≤ most_file_bytes
  pub faultless : now.source.faults ≡ before.source.faults
  pub sure : now.source.sure ≡ before.source.sure
  pub files : now.files ≡ before.files

-- more bytes were taken than the limit allows
pub record TakesTooMany (before now : ShelfSeen) : Type 0 where
  pub bytes : List ℕ
  pub left : Consumes before.source.left now.source.left bytes
  pub given : now.source.given ≡ length bytes
  pub long : most_file_bytes < length bytes
  pub faultless : now.source.faults ≡ before.source.faults

-- a read failed, as those of a sure source don't
pub record TakesNoMore (before now : ShelfSeen) : Type 0 where
  pub rose : Rose before.source.faults now.source.faults
  pub unsure : IsTrue before.source.sure → ⊥
  pub short : now.source.given ≤ most_file_bytes

pub record TakesNoMemory (before now : ShelfSeen) : Type 0 where
  pub faultless : now.source.faults ≡ before.source.faults
  pub short : now.source.given ≤ most_file_bytes

abbrev pub EndsPicked : Unread → ShelfSeen → ShelfSeen → Type 0
EndsPicked Memory = TakesNoMemory
EndsPicked Fault = TakesNoMore
EndsPicked TooLong = TakesTooMany

abbrev pub ReadsPicked : {A : Type 0} → ShelfSeen → ShelfSeen → Result (Vec ℕ A) Unread → Type 0
ReadsPicked before now (Ok bytes) = Takes before now bytes.items × IsAtEnd now.source.left
ReadsPicked before now (Err why) = EndsPicked why before now

-- ---- one file after the other

abbrev pub ReadsFiles : ShelfSeen → ShelfSeen → List (List ℕ) → Result (List (List ℕ)) Unread → Type 0
ReadsFiles before now names (Ok files) = ReadsAll most_file_bytes before now names files
ReadsFiles before now names (Err why) = EndsAt most_file_bytes (Ends why) before now names
