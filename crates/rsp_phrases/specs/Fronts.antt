-- Words of the way: parts that are read one after another, behind those that were read before.
use Rattle.std.specs.Prelude.{List, [], ◌∷◌, ◌++◌, Ok, Err}
use Rattle.rsp_phrases.specs.Readers.{Reading}

-- what was read before, and this one behind it
abbrev pub with_last : {T A : Type 0} → List A → Reading T A → Reading T (List A)
with_last front (Ok x) = Ok (front ++ (x.0 ∷ []), x.1)
with_last front (Err left) = Err left
