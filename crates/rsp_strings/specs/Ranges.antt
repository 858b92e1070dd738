-- Definitions: language tags and the ranges that match them (SPARQL 1.1, section 17.4.3.13; RFC 4647, section 3.3.1).
use Rattle.std.specs.Prelude.{ℕ, ◌==◌, nat_eq, Bool, not, ◌||◌, if◌then◌else◌, List, ◌++◌, length, codes}
use Rattle.std.specs.List.{starts_with}
use Rattle.std.specs.Str.{bytes_eq, str_to_ascii_lowercase, str_eq_ignore_ascii_case}

-- LANGMATCHES: `*` matches each tag that isn't empty. Another range matches the tags that are it, or begin with it and
-- `-`, in capital and small letters of ASCII alike.
abbrev pub is_matched_by : List ℕ → List ℕ → Bool
is_matched_by tag range =
    if bytes_eq range (codes "*")
    then not (length tag == 0)
    else (str_eq_ignore_ascii_case tag range
    || starts_with nat_eq (str_to_ascii_lowercase tag) (str_to_ascii_lowercase range ++ codes "-"))
