-- Words of the way: words, variables, labels, prefixed names and tags as automata: the state behind each character, and the
-- states in which one may end (SPARQL 1.1, section 19.8: VAR1, VAR2, BLANK_NODE_LABEL, PNAME_NS, PNAME_LN, LANGTAG).
use Rattle.std.specs.Prelude.{ℕ, Bool, true, false, not, ◌&&◌, ◌||◌, ◌==◌, if◌then◌else◌, Option, None, Some}
use Rattle.std.specs.Char.{is_ascii_alphabetic, is_ascii_alphanumeric, is_ascii_digit, is_ascii_hexdigit}
use Rattle.std.specs.Str.{byte}
use Rattle.rsp_terms.specs.Characters.{is_base}
use Rattle.rsp_lex.specs.declared.names.WordState.{WordState}
use Rattle.rsp_lex.specs.declared.names.WordState.TheVariants as word
use Rattle.rsp_lex.specs.declared.names.VariableState.{VariableState}
use Rattle.rsp_lex.specs.declared.names.VariableState.TheVariants as variable
use Rattle.rsp_lex.specs.declared.names.LabelState.{LabelState}
use Rattle.rsp_lex.specs.declared.names.LabelState.TheVariants as label
use Rattle.rsp_lex.specs.declared.names.PrefixedState.{PrefixedState}
use Rattle.rsp_lex.specs.declared.names.PrefixedState.TheVariants as prefixed
use Rattle.rsp_lex.specs.declared.names.TagState.{TagState}
use Rattle.rsp_lex.specs.declared.names.TagState.TheVariants as tag
use Rattle.rsp_lex.specs.Forms.{starts_name, continues_name, is_word_character, is_escaped}

-- ---- words: a letter, then letters, digits and `_`

abbrev pub word_step : WordState → ℕ → Option WordState
word_step word.Start c = if is_ascii_alphabetic c then Some word.Inside else None
word_step word.Inside c = if is_word_character c then Some word.Inside else None

abbrev pub word_ends : WordState → Bool
word_ends word.Start = false
word_ends word.Inside = true

-- ---- variables: `?` or `$`, then a name without `-`

abbrev pub variable_step : VariableState → ℕ → Option VariableState
variable_step variable.Start c = if c == byte "?" || c == byte "$" then Some variable.Sign else None
variable_step variable.Sign c = if starts_name c || is_ascii_digit c then Some variable.Inside else None
variable_step variable.Inside c = if continues_name c && not (c == byte "-") then Some variable.Inside else None

abbrev pub variable_ends : VariableState → Bool
variable_ends variable.Inside = true
variable_ends _ = false

-- ---- labels: `_:`, then a name in which `.` may stand, but not last

abbrev pub label_inside : ℕ → Option LabelState
label_inside c = if c == byte "." then Some label.Dot else (if continues_name c then Some label.Inside else None)

abbrev pub label_step : LabelState → ℕ → Option LabelState
label_step label.Start c = if c == byte "_" then Some label.Underscore else None
label_step label.Underscore c = if c == byte ":" then Some label.Begun else None
label_step label.Begun c = if starts_name c || is_ascii_digit c then Some label.Inside else None
label_step label.Inside c = label_inside c
label_step label.Dot c = label_inside c

abbrev pub label_ends : LabelState → Bool
label_ends label.Inside = true
label_ends _ = false

-- ---- prefixed names: a prefix, `:`, a local part; either may be empty, and neither ends with a bare `.`

abbrev pub prefix_start : ℕ → Option PrefixedState
prefix_start c = if c == byte ":" then Some prefixed.Colon else (if is_base c then Some prefixed.Prefix else None)

abbrev pub prefix_inside : ℕ → Option PrefixedState
prefix_inside c = if c == byte "." then Some prefixed.PrefixDot else (if continues_name c then Some prefixed.Prefix else None)

-- PERCENT and PN_LOCAL_ESC
abbrev pub escape_start : ℕ → Option PrefixedState
escape_start c =
    if c == byte "%" then Some prefixed.Percent else (if c == byte "\\" then Some prefixed.Backslash else None)

abbrev pub local_start : ℕ → Option PrefixedState
local_start c =
    if starts_name c || (c == byte ":" || is_ascii_digit c) then Some prefixed.Local else escape_start c

abbrev pub local_inside : ℕ → Option PrefixedState
local_inside c =
    if c == byte "." then Some prefixed.LocalDot
    else (if continues_name c || c == byte ":" then Some prefixed.Local else escape_start c)

abbrev pub prefixed_step : PrefixedState → ℕ → Option PrefixedState
prefixed_step prefixed.Start c = prefix_start c
prefixed_step prefixed.Prefix c = if c == byte ":" then Some prefixed.Colon else prefix_inside c
prefixed_step prefixed.PrefixDot c = prefix_inside c
prefixed_step prefixed.Colon c = local_start c
prefixed_step prefixed.Local c = local_inside c
prefixed_step prefixed.LocalDot c = local_inside c
prefixed_step prefixed.Percent c = if is_ascii_hexdigit c then Some prefixed.PercentDigit else None
prefixed_step prefixed.PercentDigit c = if is_ascii_hexdigit c then Some prefixed.Local else None
prefixed_step prefixed.Backslash c = if is_escaped c then Some prefixed.Local else None

abbrev pub prefixed_ends : PrefixedState → Bool
prefixed_ends prefixed.Colon = true
prefixed_ends prefixed.Local = true
prefixed_ends _ = false

-- ---- tags: `@[a-zA-Z]+(-[a-zA-Z0-9]+)*`

abbrev pub tag_step : TagState → ℕ → Option TagState
tag_step tag.Start c = if c == byte "@" then Some tag.At else None
tag_step tag.At c = if is_ascii_alphabetic c then Some tag.First else None
tag_step tag.First c = if c == byte "-" then Some tag.Hyphen else (if is_ascii_alphabetic c then Some tag.First else None)
tag_step tag.Hyphen c = if is_ascii_alphanumeric c then Some tag.Further else None
tag_step tag.Further c =
    if c == byte "-" then Some tag.Hyphen else (if is_ascii_alphanumeric c then Some tag.Further else None)

abbrev pub tag_ends : TagState → Bool
tag_ends tag.First = true
tag_ends tag.Further = true
tag_ends _ = false
