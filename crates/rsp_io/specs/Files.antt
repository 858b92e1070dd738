-- Definitions: files by name: pairs of a name and its bytes, of which the first of a name counts.
use Rattle.std.specs.Prelude.{◌≡◌, ℕ, List, [], ◌∷◌, Option, Some, None, Result, MatchResult, IsErr, IsSome, if◌then◌else◌}
use Rattle.std.specs.Prelude.{bytes_eq, ⊤, String, Vec, string_bytes}

-- the bytes of the first file of this name
abbrev pub file_named : List ℕ → List (List ℕ × List ℕ) → Option (List ℕ)
file_named name [] = None
file_named name (file ∷ files) = if bytes_eq file.0 name then Some file.1 else file_named name files

-- the bytes left are those of the first file of this name, which there is; claims nothing where files aren't told
abbrev pub NamedFile : Option (List (List ℕ × List ℕ)) → List ℕ → Option (List ℕ) → Type 0
NamedFile None name left = ⊤
NamedFile (Some files) name left = IsSome (file_named name files) × (left ≡ file_named name files)

-- `Ok`: the named file's bytes are left; `Err`: what was left before
abbrev pub PickFinds : {E : Type 0} → Option (List (List ℕ × List ℕ)) → List ℕ → Option (List ℕ) → Option (List ℕ)
    → Result (Unit {0}) E → Type 0
PickFinds files name before after result = MatchResult result (λ _. NamedFile files name after) (λ _. after ≡ before)

-- files are told, and the pick failed only for want of one of this name
abbrev pub FailsForName : {E : Type 0} → Option (List (List ℕ × List ℕ)) → List ℕ → Result (Unit {0}) E → Type 0
FailsForName None name result = ⊥
FailsForName (Some files) name result = IsErr result → file_named name files ≡ None

-- the names and bytes of a list of files, as contracts see them
abbrev pub named_files : {A B : Type 0} → List (String A × Vec ℕ B) → List (List ℕ × List ℕ)
named_files [] = []
named_files (file ∷ files) = (string_bytes file.0, file.1.items) ∷ named_files files
