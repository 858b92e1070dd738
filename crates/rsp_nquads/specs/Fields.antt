-- Words of the way: a field that is an IRI and nothing else.
use Rattle.std.specs.Prelude.{ℕ, ◌&&◌, ◌==◌, if◌then◌else◌, Option, None, Some, List, length}
use Rattle.std.specs.Option.{option_and_then}
use Rattle.rsp_terms.specs.Characters.{is_absolute}
use Rattle.rsp_scan.specs.Readers.{iri}

-- an IRIREF with nothing behind it, whose IRI is absolute (RFC 3986, section 4.3)
unfoldable pub absolute_iri : List ℕ → Option (List ℕ)
absolute_iri field =
    option_and_then (λ x. if (length x.1 == 0) && is_absolute x.0 then Some x.0 else None) (iri field)
