-- The fault of a part that holds a relative IRI, by its place.
use Rattle.std.proofs.Common.{◌≡◌, ℕ, List, Option, Some, None, refl, ap}
use Rattle.std.specs.Option.{option_map, option_map_or}
use Rattle.rsp_terms.specs.declared.statement.Quad.{Quad}
use Rattle.rsp_nquads.specs.declared.statements.Part.{Part}
use Rattle.rsp_nquads.specs.Statements.{column}
use Rattle.rsp_nquads.specs.Answers.{Answer, statement, relative_iri}

some_same : (m n : ℕ) → Some m ≡ Some n → m ≡ n
some_same m n h = cc

abbrev judged_by : List ℕ → Quad → Option Part → Answer
judged_by line quad found = option_map_or (λ part. relative_iri (column line part.left)) found (statement quad)

pub judged_some : (line : List ℕ) (quad : Quad) (found : Option Part) (left : ℕ) → option_map (λ part. part.left) found ≡ Some left
    → judged_by line quad found ≡ relative_iri (column line left)
judged_some line quad None left h = absurd (cc)
judged_some line quad (Some part) left h = ap (λ n. relative_iri (column line n)) (some_same part.left left h)

pub judged_none : (line : List ℕ) (quad : Quad) (found : Option Part) → option_map (λ part. part.left) found ≡ None
    → judged_by line quad found ≡ statement quad
judged_none line quad None h = refl
judged_none line quad (Some part) h = absurd (cc)
