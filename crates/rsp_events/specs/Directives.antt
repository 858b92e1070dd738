-- Definitions: the directives of the event log: what the first line of a block says.
--
-- A directive is UTF-8: words, names and times are ASCII, and an IRI is read by characters.
use Rattle.std.specs.Prelude.{ℕ, Bool, ◌&&◌, ◌||◌, not, ◌==◌, nat_le, if◌then◌else◌, Option, None, Some, List, [], ◌∷◌, length}
use Rattle.std.specs.Prelude.{drop, filter, codes, bytes_eq}
use Rattle.std.specs.Bool.{then_some}
use Rattle.std.specs.Char.{is_ascii_alphanumeric}
use Rattle.std.specs.List.{list_all, slice_split}
use Rattle.std.specs.Str.{byte}
use Rattle.std.specs.Option.{option_map, option_and_then, option_or}
use Rattle.rsp_spec.specs.Limits.{last_instant}
use Rattle.rsp_text.specs.Digits.{read_u64}
use Rattle.rsp_text.specs.Instants.{instant}
use Rattle.rsp_nquads.specs.Fields.{absolute_iri}
use Rattle.rsp_events.specs.declared.directives.Directive.{Directive}
use Rattle.rsp_events.specs.declared.directives.Directive.TheVariants.{Register, Cancel, Item, Tick, Insert, Delete}
use Rattle.rsp_text.specs.Fronts.{is_blank}
use Rattle.rsp_events.specs.Lines.{first_field}

-- ---- fields

-- what stands between spaces and tabs
abbrev pub fields : List ℕ → List (List ℕ)
fields text = filter (λ part. not (length part == 0)) (slice_split is_blank text)

-- ---- names and times

-- a letter, a digit, `_` or `-`
abbrev pub is_name_character : ℕ → Bool
is_name_character c = is_ascii_alphanumeric c || ((c == byte "_") || (c == byte "-"))

-- a query's name: 1 to 64 of these
unfoldable pub is_name : List ℕ → Bool
is_name text = (nat_le 1 (length text) && nat_le (length text) 64) && list_all is_name_character text

-- a number of milliseconds since 1970, up to the end of the year 9999
abbrev pub number_of : List ℕ → Option ℕ
number_of text = option_and_then (λ n. if nat_le n last_instant then Some n else None) (read_u64 text)

-- such a number, or a date and time
abbrev pub time_of : List ℕ → Option ℕ
time_of text = option_or (number_of text) (instant text)

-- ---- directives, by the fields behind the first

-- a name
abbrev pub named : (List ℕ → Directive) → List (List ℕ) → Option Directive
named directive (name ∷ []) = then_some (is_name name) (directive name)
named directive _ = None

-- a time
abbrev pub timed : (ℕ → Directive) → List (List ℕ) → Option Directive
timed directive (time ∷ []) = option_map directive (time_of time)
timed directive _ = None

-- an absolute IRI and a time
abbrev pub item : List (List ℕ) → Option Directive
item (stream ∷ time ∷ []) = option_and_then (λ iri. option_map (λ at. Item iri at) (time_of time)) (absolute_iri stream)
item _ = None

-- nothing
abbrev pub alone : Directive → List (List ℕ) → Option Directive
alone directive fields = then_some (length fields == 0) directive

-- by the first field
unfoldable pub directive_by : List ℕ → List (List ℕ) → Option Directive
directive_by word fields =
    if bytes_eq word (codes "@register") then named (λ name. Register name) fields
    else (if bytes_eq word (codes "@cancel") then named (λ name. Cancel name) fields
    else (if bytes_eq word (codes "@item") then item fields
    else (if bytes_eq word (codes "@tick") then timed (λ time. Tick time) fields
    else (if bytes_eq word (codes "@insert") then alone Insert fields
    else (if bytes_eq word (codes "@delete") then alone Delete fields else None)))))

-- the directive of a line, where it is one; the first field begins at the line's first byte
abbrev pub directive_of : List ℕ → Option Directive
directive_of line = directive_by (first_field line) (fields (drop (length (first_field line)) line))
