-- Words of the way: that no term of a quad is a blank node, term by term. The laws `no_blank_from` and `no_blank_to` (NoBlanks)
-- say that this is HasNoBlank of Writing.
use Rattle.std.specs.Prelude.{⊤, Option, None, Some}
use Rattle.rsp_terms.specs.declared.term.Term.{Term}
use Rattle.rsp_terms.specs.declared.term.Term.TheVariants.{Blank}
use Rattle.rsp_terms.specs.declared.statement.Quad.{Quad}

abbrev pub IsNotBlank : Term → Type 0
IsNotBlank (Blank document label) = ⊥
IsNotBlank _ = ⊤

abbrev pub IsNotBlankIn : Option Term → Type 0
IsNotBlankIn None = ⊤
IsNotBlankIn (Some term) = IsNotBlank term

abbrev pub AreNotBlank : Quad → Type 0
AreNotBlank quad = IsNotBlank quad.triple.subject × IsNotBlank quad.triple.object × IsNotBlankIn quad.graph
