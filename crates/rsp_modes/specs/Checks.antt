-- Definitions: what is said of the file of a query, by its text alone.
use Rattle.std.specs.Prelude.{ℕ, nat_lt, if◌then◌else◌, Option, None, Some, List, [], ◌∷◌, length}
use Rattle.std.specs.Option.{option_or}
use Rattle.std.specs.Str.{is_utf8}
use Rattle.std.specs.Str.Lossy.{utf8_valid_len}
use Rattle.rsp_spec.specs.Limits.{most_text_bytes}
use Rattle.rsp_numbering.specs.declared.limit.LimitName.TheVariants as name
use Rattle.rsp_syntax.specs.declared.fault.SyntaxFault.TheVariants.{BadToken, Limit}
use Rattle.rsp_engine.specs.declared.refused.Refused.TheVariants.{Text}
use Rattle.rsp_engine.specs.declared.refused.TextFault.{TextFault}
use Rattle.rsp_engine.specs.declared.refused.TextFault.TheVariants.{Syntax}
use Rattle.rsp_engine.specs.Refusals.{text_fault}
use Rattle.rsp_modes.specs.declared.refusals.Place.TheVariants.{Query}
use Rattle.rsp_modes.specs.Refusals.{of_event}
use Rattle.rsp_modes.specs.Output.{Saying, a_refusal, no_fault}

-- why a file can be no text of a query: it is longer than a text may be, or behind so many bytes it is no UTF-8
abbrev pub bytes_fault : List ℕ → Option TextFault
bytes_fault bytes =
    if nat_lt most_text_bytes (length bytes)
    then Some (Syntax (Limit name.Text))
    else (if is_utf8 bytes then None else Some (Syntax (BadToken (utf8_valid_len bytes))))

-- the first fault of a file: that of its bytes, or of its text
abbrev pub file_fault : List ℕ → Option TextFault
file_fault bytes = option_or (bytes_fault bytes) (text_fault bytes)

abbrev pub verdict : Option TextFault → Saying
verdict None = no_fault
verdict (Some fault) = a_refusal Query (of_event (Text fault))

-- of the one file that is checked
abbrev pub checked : List (List ℕ) → List Saying
checked (bytes ∷ []) = verdict (file_fault bytes) ∷ []
checked _ = []
