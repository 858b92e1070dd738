-- Definitions: where one text stands in another (SPARQL 1.1, sections 17.4.3.6 to 17.4.3.10).
-- Texts are bytes in UTF-8, where no character begins within another: a text stands in another by its characters
-- exactly where it does by its bytes.
use Rattle.std.specs.Prelude.{ℕ, nat_eq, Bool, if◌then◌else◌, Option, Some, None, option_map, is_some, List, [], ◌∷◌, drop}
use Rattle.std.specs.Prelude.{length}
use Rattle.std.specs.List.{starts_with, ends_with}

-- STRSTARTS and STRENDS
abbrev pub begins_with : List ℕ → List ℕ → Bool
begins_with text part = starts_with nat_eq text part

abbrev pub finishes_with : List ℕ → List ℕ → Bool
finishes_with text part = ends_with nat_eq text part

-- what stands before and behind the first occurrence of the part
abbrev pub sides : List ℕ → List ℕ → Option (List ℕ × List ℕ)
sides [] part = if begins_with [] part then Some ([], []) else None
sides (b ∷ bs) part =
    if begins_with (b ∷ bs) part
    then Some ([], drop (length part) (b ∷ bs))
    else option_map (λ both. (b ∷ both.0, both.1)) (sides bs part)

-- CONTAINS
abbrev pub contains : List ℕ → List ℕ → Bool
contains text part = is_some (sides text part)

-- STRBEFORE and STRAFTER, where the part occurs
abbrev pub text_before : List ℕ → List ℕ → Option (List ℕ)
text_before text part = option_map (λ both. both.0) (sides text part)

abbrev pub text_after : List ℕ → List ℕ → Option (List ℕ)
text_after text part = option_map (λ both. both.1) (sides text part)
