-- Definitions: how files are read whole from a shelf, by what contracts see of the shelf before and now.
use Rattle.std.specs.Prelude.{◌≡◌, ◌⊎◌, ℕ, ◌<◌, ◌≤◌, IsSomeAnd, IsTrue, Option, Some, None, List, [], ◌∷◌, length}
use Rattle.std.specs.Option.{IfSome}
use Rattle.std.specs.Io.KnownBytes.{IsAtEnd}
use Rattle.rsp_spec.specs.Faults.{Rose}
use Rattle.rsp_io.specs.Files.{file_named}
use Rattle.rsp_io.specs.Seen.{SourceSeen}

-- the files by name, where the shelf tells them; and what is seen of it as a source: of the file picked last, since that pick,
-- and sure but for a name without a file
pub record ShelfSeen : Type 0 where
  pub files : Option (List (List ℕ × List ℕ))
  pub source : SourceSeen

abbrev pub shelf_seen : Option (List (List ℕ × List ℕ)) → SourceSeen → ShelfSeen
shelf_seen files source = record { files = files; source = source }

-- ---- one file, that may have so many bytes

-- these are the bytes of the file of this name, where files are told; all were given, and no more than a file may have
pub record ReadsWhole (most : ℕ) (before now : ShelfSeen) (name bytes : List ℕ) : Type 0 where
  pub file : IfSome before.files (λ files. file_named name files ≡ Some bytes)
  pub at_end : IsAtEnd now.source.left
  pub given : now.source.given ≡ length bytes
  pub short : length bytes ≤ most
  pub faultless : now.source.faults ≡ before.source.faults
  pub sure : now.source.sure ≡ before.source.sure
  pub files : now.files ≡ before.files

-- files are told, and none has the name
abbrev pub Lacks : Option (List (List ℕ × List ℕ)) → List ℕ → Type 0
Lacks None name = ⊥
Lacks (Some files) name = file_named name files ≡ None

-- the pick of the name or a read failed: over a sure shelf since no file has the name
pub record CantRead (most : ℕ) (before now : ShelfSeen) (name : List ℕ) : Type 0 where
  pub rose : Rose before.source.faults now.source.faults
  pub missing : IsTrue before.source.sure → Lacks before.files name
  pub short : now.source.given ≤ most

-- more bytes were given than a file may have; where files are told, one has the name and is so long
pub record IsTooLong (most : ℕ) (before now : ShelfSeen) (name : List ℕ) : Type 0 where
  pub long : most < now.source.given
  pub file : IfSome before.files (λ files. IsSomeAnd (file_named name files) (λ bytes. most < length bytes))
  pub faultless : now.source.faults ≡ before.source.faults

-- memory was refused
pub record LacksMemory (most : ℕ) (before now : ShelfSeen) (name : List ℕ) : Type 0 where
  pub faultless : now.source.faults ≡ before.source.faults
  pub short : now.source.given ≤ most

-- ---- one file after the other

-- the files of these names were read whole, in order: their bytes
abbrev pub ReadsAll : ℕ → ShelfSeen → ShelfSeen → List (List ℕ) → List (List ℕ) → Type 0
ReadsAll most before now [] [] = now ≡ before
ReadsAll most before now (name ∷ names) (bytes ∷ files) =
    (mid : ShelfSeen) × ReadsWhole most before mid name bytes × ReadsAll most mid now names files
ReadsAll most before now _ _ = ⊥

-- the reading of these files ended so at one of them, and those before it were read whole
abbrev pub EndsAt : ℕ → (ShelfSeen → ShelfSeen → List ℕ → Type 0) → ShelfSeen → ShelfSeen → List (List ℕ) → Type 0
EndsAt most Why before now [] = ⊥
EndsAt most Why before now (name ∷ names) =
    Why before now name
    ⊎ ((mid : ShelfSeen) × (bytes : List ℕ) × ReadsWhole most before mid name bytes × EndsAt most Why mid now names)
