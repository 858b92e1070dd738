-- Words of the way: what a loop has gathered, followed by what is made of what it reads.
use Rattle.std.specs.Prelude.{◌≡◌, List, [], ◌∷◌, ◌++◌, Ok, Err}
use Rattle.rsp_phrases.specs.Readers.{Reading}

abbrev pub gathered : {T A B : Type 0} → (A → List B) → List B → Reading T A → Reading T (List B)
gathered make front (Ok x) = Ok (front ++ make x.0, x.1)
gathered make front (Err left) = Err left

-- a value as it is
abbrev pub single : {A : Type 0} → A → List A
single a = a ∷ []

abbrev pub as_read : {A : Type 0} → List A → List A
as_read values = values

-- what is made of many values is what is made of each, one behind the other
pub record Gathers {A B : Type 0} (make : A → List B) (make_all : List A → List B) : Type 0 where
  pub none : make_all [] ≡ []
  pub first : (a : A) (more : List A) → make_all (a ∷ more) ≡ make a ++ make_all more
