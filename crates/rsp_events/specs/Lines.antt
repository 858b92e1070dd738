-- Definitions: the lines of the event log, and which of them begin and end a block.
use Rattle.std.specs.Prelude.{ℕ, ◌+◌, Bool, true, false, ◌&&◌, ◌||◌, not, ◌==◌, nat_lt, if◌then◌else◌, List, [], ◌∷◌, drop}
use Rattle.std.specs.Prelude.{length, codes, nat_eq, bytes_eq, sum_by}
use Rattle.std.specs.List.{list_any, list_all, slice_split, starts_with, before_first}
use Rattle.std.specs.Str.{byte}
use Rattle.std.specs.Str.Lines.{strip_carriage_return}
use Rattle.rsp_spec.specs.Limits.{most_block_bytes}
use Rattle.rsp_text.specs.Fronts.{is_blank}

-- a line: its number in the text, from 1, its bytes before the line feed, and whether a line feed ends it, which only
-- the last line may lack
pub record Line : Type 0 where
  pub number : ℕ
  pub bytes : List ℕ
  pub ended : Bool

-- what stands between line feeds; the last part stands behind the last line feed
abbrev pub parts : List ℕ → List (List ℕ)
parts bytes = slice_split (λ b. b == 10) bytes

-- the parts as lines, numbered in order; the last part is a line where it isn't empty
abbrev pub lines_of_parts : ℕ → List (List ℕ) → List Line
lines_of_parts n [] = []
lines_of_parts n (x ∷ []) =
    if length x == 0 then [] else record { number = n; bytes = x; ended = false } ∷ []
lines_of_parts n (x ∷ y ∷ more) = record { number = n; bytes = x; ended = true } ∷ lines_of_parts (n + 1) (y ∷ more)

-- the lines of a text
abbrev pub log_lines : List ℕ → List Line
log_lines bytes = lines_of_parts 1 (parts bytes)

-- what a line says: one carriage return directly before the line feed is dropped
abbrev pub text_of : Line → List ℕ
text_of line = if line.ended then strip_carriage_return line.bytes else line.bytes

-- the bytes of a line, its line feed among them
abbrev pub size_of : Line → ℕ
size_of line = length line.bytes + (if line.ended then 1 else 0)

-- the bytes of some lines
abbrev pub sizes_of : List Line → ℕ
sizes_of lines = sum_by size_of lines

-- a line that has more bytes than a block may have, its line feed apart
abbrev pub is_long : Line → Bool
is_long line = nat_lt most_block_bytes (length line.bytes)

-- a line that is passed over between blocks: blanks alone, or one that begins with `#`
unfoldable pub is_passed : List ℕ → Bool
is_passed [] = true
is_passed (c ∷ cs) = (c == byte "#") || list_all is_blank (c ∷ cs)

-- what stands before the first blank
abbrev pub first_field : List ℕ → List ℕ
first_field line = before_first is_blank line

-- a directive that has a body
unfoldable pub has_body : List ℕ → Bool
has_body line =
    list_any (λ directive. bytes_eq directive (first_field line))
    (codes "@register" ∷ codes "@item" ∷ codes "@insert" ∷ codes "@delete" ∷ [])

-- `@end`, and nothing but blanks behind it
unfoldable pub is_end : List ℕ → Bool
is_end line = starts_with nat_eq line (codes "@end") && list_all is_blank (drop 4 line)

-- ---- lines between blocks

-- a line that is passed over
abbrev pub passes : Line → Bool
passes line = not (is_long line) && is_passed (text_of line)

-- a directive that has a body
abbrev pub begins_body : Line → Bool
begins_body line = not (is_long line) && has_body (text_of line)

-- a line that ends a body
abbrev pub ends_body : Line → Bool
ends_body line = is_end (text_of line)
