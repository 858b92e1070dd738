-- Words of the way: what the objects in memory are made of: bytes taken within a room, files of which one is picked, and calls
-- that fail.
-- What is seen of a whole object (States) is made of what is seen of its parts.
use Rattle.std.specs.Prelude.{ℕ, List, [], ◌∷◌, Option, None, Some, String, Vec, drop}

-- bytes taken, and the room that is left for more
pub record ReserveState : Type 0 where
  pub taken : List ℕ
  pub room : ℕ

-- files, and what is left of the one that was picked last
pub record FilesState : Type 0 where
  pub files : List (List ℕ × List ℕ)
  pub left : List ℕ

-- the next call's number, and the numbers of those that fail
pub record CallsState : Type 0 where
  pub calls : ℕ
  pub failing : List ℕ

-- the bytes of the first file
abbrev pub first_bytes : {A B : Type 0} → List (String A × Vec ℕ B) → List ℕ
first_bytes [] = []
first_bytes (file ∷ files) = file.1.items

-- the bytes of the file that was picked by its index; none before any pick
abbrev pub picked_bytes : {A B : Type 0} → List (String A × Vec ℕ B) → Option ℕ → List ℕ
picked_bytes files None = []
picked_bytes files (Some index) = first_bytes (drop index files)
