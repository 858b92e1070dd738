-- Words of the way: what a condition of the tests asks.
use Rattle.std.specs.Prelude.{Bool, false, Option, None, Some}
use Rattle.rsp_terms.specs.declared.term.Term.{Term}
use Rattle.rsp_terms.specs.Same.{term_eq}

abbrev pub equals : Term → Option Term → Bool
equals wanted None = false
equals wanted (Some t) = term_eq t wanted
