-- Definitions: the order of terms (SPARQL 1.1 Query, section 15.1), made total. None is an unbound variable.
use Rattle.std.specs.Prelude.{ℕ, Option, Some, None, option_map, if◌then◌else◌, is_some}
use Rattle.std.specs.Cmp.Lexicographic.{slice_cmp}
use Rattle.std.specs.Option.{option_and_then, option_cmp}
use Rattle.std.specs.Ordering.{nat_cmp, on, then_cmp}
use Rattle.std.specs.declared.cmp.Ordering.{Ordering}
use Rattle.rsp_number.specs.Numbers.{comparison}
use Rattle.rsp_terms.specs.declared.term.Term.{Term}
use Rattle.rsp_terms.specs.declared.term.Term.TheVariants.{Iri, Blank}
use Rattle.rsp_terms.specs.Terms.{term_text}
use Rattle.rsp_expr.specs.Forms.{number_of}

-- unbound, then blank nodes, IRIs, literals that have a number, other literals
abbrev pub term_rank : Term → ℕ
term_rank (Blank document label) = 1
term_rank (Iri text) = 2
term_rank literal = if is_some (number_of literal) then 3 else 4

abbrev pub rank : Option Term → ℕ
rank None = 0
rank (Some term) = term_rank term

-- the number of a blank node's document
abbrev pub document_number : Option Term → ℕ
document_number (Some (Blank document label)) = document
document_number term = 0

-- By rank, then numbers by value, then by the bytes that are printed. At most 64 digits of a document's number are printed:
-- longer numbers, of which a program has none, stand by themselves, so that only a term itself is equal to it.
abbrev pub order : Option Term → Option Term → Ordering
order =
    then_cmp (on rank nat_cmp)
    (then_cmp
    (on (option_and_then number_of) (option_cmp comparison))
    (then_cmp
    (on (option_map term_text) (option_cmp (slice_cmp nat_cmp)))
    (on document_number nat_cmp)))

-- the order of two terms that are bound
abbrev pub term_order : Term → Term → Ordering
term_order left right = order (Some left) (Some right)
