-- Definitions: the types of whole numbers (XML Schema Definition Language 1.1 Part 2, section 3; SPARQL 1.1, section 17.1),
-- each by its IRI, with its least and its greatest number, where it has one.
use Rattle.std.specs.Prelude.{ℕ, ◌-◌, ◌^◌, ℤ, pos, neg_ℤ, int_le, Bool, true, ◌&&◌, Option, None, Some, List, [], ◌∷◌, codes}
use Rattle.std.specs.Map.{lookup}
use Rattle.std.specs.Str.{bytes_eq}

abbrev pub whole_types : List (List ℕ × (Option ℤ × Option ℤ))
whole_types =
    (codes "http://www.w3.org/2001/XMLSchema#integer", (None, None))
    ∷ (codes "http://www.w3.org/2001/XMLSchema#long", (Some (neg_ℤ (pos (2 ^ 63))), Some (pos (2 ^ 63 - 1))))
    ∷ (codes "http://www.w3.org/2001/XMLSchema#int", (Some (neg_ℤ (pos (2 ^ 31))), Some (pos (2 ^ 31 - 1))))
    ∷ (codes "http://www.w3.org/2001/XMLSchema#short", (Some (neg_ℤ (pos (2 ^ 15))), Some (pos (2 ^ 15 - 1))))
    ∷ (codes "http://www.w3.org/2001/XMLSchema#byte", (Some (neg_ℤ (pos (2 ^ 7))), Some (pos (2 ^ 7 - 1))))
    ∷ (codes "http://www.w3.org/2001/XMLSchema#nonPositiveInteger", (None, Some (pos 0)))
    ∷ (codes "http://www.w3.org/2001/XMLSchema#negativeInteger", (None, Some (neg_ℤ (pos 1))))
    ∷ (codes "http://www.w3.org/2001/XMLSchema#nonNegativeInteger", (Some (pos 0), None))
    ∷ (codes "http://www.w3.org/2001/XMLSchema#positiveInteger", (Some (pos 1), None))
    ∷ (codes "http://www.w3.org/2001/XMLSchema#unsignedLong", (Some (pos 0), Some (pos (2 ^ 64 - 1))))
    ∷ (codes "http://www.w3.org/2001/XMLSchema#unsignedInt", (Some (pos 0), Some (pos (2 ^ 32 - 1))))
    ∷ (codes "http://www.w3.org/2001/XMLSchema#unsignedShort", (Some (pos 0), Some (pos (2 ^ 16 - 1))))
    ∷ (codes "http://www.w3.org/2001/XMLSchema#unsignedByte", (Some (pos 0), Some (pos (2 ^ 8 - 1))))
    ∷ []

-- the bounds of the type that the IRI names; None where it names none
abbrev pub range_of : List ℕ → Option (Option ℤ × Option ℤ)
range_of iri = lookup (bytes_eq iri) whole_types

abbrev pub is_at_least : Option ℤ → ℤ → Bool
is_at_least None n = true
is_at_least (Some least) n = int_le least n

abbrev pub is_at_most : Option ℤ → ℤ → Bool
is_at_most None n = true
is_at_most (Some greatest) n = int_le n greatest

-- the number is within the bounds
abbrev pub is_in_range : Option ℤ × Option ℤ → ℤ → Bool
is_in_range range n = is_at_least range.0 n && is_at_most range.1 n
