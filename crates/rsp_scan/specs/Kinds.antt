-- Words of the way: what stands between the signs of an IRI and of a string.
use Rattle.std.specs.Prelude.{ℕ, Bool}
use Rattle.rsp_terms.specs.Characters.{is_iri_character}
use Rattle.rsp_scan.specs.declared.enclosed.Kind.{Kind}
use Rattle.rsp_scan.specs.declared.enclosed.Kind.TheVariants.{Iri, String}
use Rattle.rsp_scan.specs.Readers.{PartReader, iri_escape, string_escape}
use Rattle.rsp_scan.specs.Enclosed.{is_string_character}

abbrev pub is_plain : Kind → ℕ → Bool
is_plain Iri = is_iri_character
is_plain String = is_string_character

abbrev pub escape : Kind → PartReader ℕ
escape Iri = iri_escape
escape String = string_escape
