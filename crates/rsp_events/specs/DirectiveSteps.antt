-- Words of the way: a directive as the code reads it, by one field and then the next. The law `directive_is` (DirectiveLaws)
-- says that this is the directive of Directives.
use Rattle.std.specs.Prelude.{ℕ, ◌==◌, if◌then◌else◌, Option, None, Some, List, [], ◌∷◌, length, codes, bytes_eq}
use Rattle.std.specs.Option.{option_map, option_and_then}
use Rattle.rsp_nquads.specs.Fields.{absolute_iri}
use Rattle.rsp_events.specs.declared.directives.Directive.{Directive}
use Rattle.rsp_events.specs.declared.directives.Directive.TheVariants.{Register, Cancel, Item, Tick, Insert, Delete}
use Rattle.rsp_events.specs.Directives.{is_name, time_of}

-- the one field, where there is one and no other
abbrev pub only_field : List (List ℕ) → Option (List ℕ)
only_field [] = None
only_field (field ∷ []) = Some field
only_field (field ∷ other ∷ more) = None

-- the two fields
abbrev pub two_fields : List (List ℕ) → Option (List ℕ × List ℕ)
two_fields [] = None
two_fields (first ∷ more) = option_map (λ second. (first, second)) (only_field more)

abbrev pub name_of : List ℕ → Option (List ℕ)
name_of text = if is_name text then Some text else None

-- a name
abbrev pub directive_with_name : (List ℕ → Directive) → List (List ℕ) → Option Directive
directive_with_name directive fields = option_map directive (option_and_then name_of (only_field fields))

-- a time
abbrev pub directive_with_time : (ℕ → Directive) → List (List ℕ) → Option Directive
directive_with_time directive fields = option_map directive (option_and_then time_of (only_field fields))

-- an absolute IRI and a time
abbrev pub item_directive : List ℕ → List ℕ → Option Directive
item_directive stream time = option_and_then (λ iri. option_map (λ at. Item iri at) (time_of time)) (absolute_iri stream)

abbrev pub item_of_fields : List (List ℕ) → Option Directive
item_of_fields fields = option_and_then (λ x. item_directive x.0 x.1) (two_fields fields)

-- nothing
abbrev pub directive_alone : Directive → List (List ℕ) → Option Directive
directive_alone directive fields = if length fields == 0 then Some directive else None

-- by the first field
unfoldable pub directive_read : List ℕ → List (List ℕ) → Option Directive
directive_read word fields =
    if bytes_eq word (codes "@register") then directive_with_name (λ name. Register name) fields
    else (if bytes_eq word (codes "@cancel") then directive_with_name (λ name. Cancel name) fields
    else (if bytes_eq word (codes "@item") then item_of_fields fields
    else (if bytes_eq word (codes "@tick") then directive_with_time (λ time. Tick time) fields
    else (if bytes_eq word (codes "@insert") then directive_alone Insert fields
    else (if bytes_eq word (codes "@delete") then directive_alone Delete fields else None)))))
