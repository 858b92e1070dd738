-- Definitions: what a line says: nothing, a quad, or a fault with its column.
use Rattle.std.specs.Prelude.{◌≡◌, ◌↔◌, ℕ, ⊤, Option, None, Some, List, Ok, Err, Result}
use Rattle.rsp_terms.specs.declared.statement.Quad.{Quad}
use Rattle.rsp_nquads.specs.declared.fault.LineFault.{LineFault}
use Rattle.rsp_nquads.specs.declared.fault.LineFault.TheVariants.{BadStatement, RelativeIri, OutOfMemory}
use Rattle.rsp_nquads.specs.Grammar.{Says, SaysNothing, IsFirstFault, IsFirstRelative}

pub data Answer : Type 0 where
  nothing : Answer
  statement : Quad → Answer
  bad_statement : ℕ → Answer
  relative_iri : ℕ → Answer

-- the line has this answer by the grammar, and no other
pub record IsTied (document : ℕ) (line : List ℕ) (answer : Answer) : Type 0 where
  pub says_nothing : (answer ≡ nothing) ↔ SaysNothing line
  pub says : (quad : Quad) → (answer ≡ statement quad) ↔ Says document line quad
  pub first_fault : (column : ℕ) → (answer ≡ bad_statement column) ↔ IsFirstFault document line column
  pub first_relative : (column : ℕ) → (answer ≡ relative_iri column) ↔ IsFirstRelative document line column

-- the result is this answer; want of memory alone is free
abbrev pub IsAnswer : Result (Option Quad) LineFault → Answer → Type 0
IsAnswer (Ok None) answer = answer ≡ nothing
IsAnswer (Ok (Some quad)) answer = answer ≡ statement quad
IsAnswer (Err (BadStatement column)) answer = answer ≡ bad_statement column
IsAnswer (Err (RelativeIri column)) answer = answer ≡ relative_iri column
IsAnswer (Err OutOfMemory) answer = ⊤

-- the result is the answer that the line has by the grammar
abbrev pub IsByGrammar : ℕ → List ℕ → Result (Option Quad) LineFault → Type 0
IsByGrammar document line result = (answer : Answer) → IsTied document line answer → IsAnswer result answer
