-- Definitions: the kinds of tokens. A kind is a test of a whole text; a token of it is the longest front that passes
-- (SPARQL 1.1 Query, section 19.8: IRIREF, PNAME_NS, PNAME_LN, BLANK_NODE_LABEL, VAR1, VAR2, LANGTAG, INTEGER, DECIMAL, DOUBLE,
-- STRING_LITERAL1 to STRING_LITERAL_LONG2, ECHAR, UCHAR, PN_LOCAL_ESC; XML Schema Part 2, section 3.2.6.1, for spans).
use Rattle.std.specs.Prelude.{ℕ, Bool, true, not, ◌&&◌, ◌||◌, ◌==◌, List, [], ◌∷◌, length, codes}
use Rattle.std.specs.Char.{is_ascii_alphabetic, is_ascii_alphanumeric, is_ascii_digit, is_ascii_hexdigit}
use Rattle.std.specs.List.{list_any}
use Rattle.std.specs.Str.{byte, chars, encode_utf8_all}
use Rattle.rsp_terms.specs.Characters.{is_base, is_iri_character, is_name_character}
use Rattle.rsp_scan.specs.Fronts.{longest_front}
use Rattle.rsp_scan.specs.Escaping.{uchar_step, escape_step}
use Rattle.rsp_lex.specs.declared.token.TokenKind.{TokenKind}
use Rattle.rsp_lex.specs.declared.token.TokenKind.TheVariants as kind
use Rattle.rsp_lex.specs.Patterns.{Form, one, ◌before◌, ◌or◌, text, maybe, many, some, escape_of, ended}

-- ---- white space and comments: a comment is `#` to the end of the line

abbrev pub is_white : ℕ → Bool
is_white c = c == byte " " || (c == byte "\t" || (c == byte "\n" || c == byte "\r"))

abbrev pub gap : Form
gap = many (one is_white or (text (codes "#") before many (one (λ c. not (c == byte "\n")))))

-- ---- names

-- PN_CHARS_U and PN_CHARS, which have no `:` here
abbrev pub starts_name : ℕ → Bool
starts_name c = is_base c || c == byte "_"

abbrev pub continues_name : ℕ → Bool
continues_name c = is_name_character c && not (c == byte ":")

abbrev pub is_word_character : ℕ → Bool
is_word_character c = is_ascii_alphanumeric c || c == byte "_"

-- with dots between, but none at the end
abbrev pub dotted : Form → Form
dotted p = many (many (text (codes ".")) before p)

abbrev pub is_escaped : ℕ → Bool
is_escaped c = list_any (λ d. c == d) (codes "_~.-!$&'()*+,;=/?#@%")

-- PERCENT and PN_LOCAL_ESC
abbrev pub local_escape : Form
local_escape =
    (text (codes "%") before (one is_ascii_hexdigit before one is_ascii_hexdigit)) or (text (codes "\\") before one is_escaped)

abbrev pub local : Form
local =
    (one (λ c. starts_name c || (c == byte ":" || is_ascii_digit c)) or local_escape)
    before dotted (one (λ c. continues_name c || c == byte ":") or local_escape)

-- ---- numbers and spans of time

abbrev pub digits : Form
digits = some (one is_ascii_digit)

abbrev pub exponent : Form
exponent = one (λ c. c == byte "e" || c == byte "E") before (maybe (one (λ c. c == byte "+" || c == byte "-")) before digits)

-- behind the digits of its first part, which are of the seconds, the minutes or the hours
abbrev pub seconds : Form
seconds = maybe (text (codes ".") before digits) before text (codes "S")

abbrev pub minutes : Form
minutes = (text (codes "M") before maybe (digits before seconds)) or seconds

abbrev pub hours : Form
hours = (text (codes "H") before maybe (digits before minutes)) or minutes

abbrev pub time : Form
time = text (codes "T") before (digits before hours)

-- ---- strings

abbrev pub escape : Form
escape = escape_of escape_step (λ c. true)

-- without a line feed and a carriage return
abbrev pub short : ℕ → Form
short quote =
    text (quote ∷ [])
    before (many (one (λ c. not (c == quote) && not (c == byte "\\" || (c == byte "\n" || c == byte "\r"))) or escape)
    before text (quote ∷ []))

abbrev pub in_long : ℕ → Form
in_long quote = one (λ c. not (c == quote) && not (c == byte "\\")) or escape

-- up to its first three quotes
abbrev pub long : ℕ → Form
long quote =
    text (quote ∷ quote ∷ quote ∷ [])
    before (many (maybe (text (quote ∷ []) or text (quote ∷ quote ∷ [])) before in_long quote)
    before text (quote ∷ quote ∷ quote ∷ []))

-- ---- the kinds

abbrev pub is_single : ℕ → Bool
is_single c = list_any (λ d. c == d) (codes "{}()[].;,=+-*/?")

abbrev pub begins_comparison : ℕ → Bool
begins_comparison c = c == byte "!" || (c == byte "<" || c == byte ">")

abbrev pub form : TokenKind → Form
form kind.Iri =
    text (codes "<") before (many (one is_iri_character or escape_of uchar_step is_iri_character) before text (codes ">"))
form kind.Prefixed =
    maybe (one is_base before dotted (one continues_name)) before (text (codes ":") before maybe local)
form kind.Label =
    text (codes "_:") before (one (λ c. starts_name c || is_ascii_digit c) before dotted (one continues_name))
form kind.Variable =
    one (λ c. c == byte "?" || c == byte "$")
    before (one (λ c. starts_name c || is_ascii_digit c) before many (one (λ c. continues_name c && not (c == byte "-"))))
form kind.Span =
    text (codes "P") before ((digits before (text (codes "D") before maybe time)) or time)
form kind.Word = one is_ascii_alphabetic before many (one is_word_character)
form kind.Tag =
    text (codes "@")
    before (some (one is_ascii_alphabetic) before many (text (codes "-") before some (one is_ascii_alphanumeric)))
form kind.Double =
    ((digits before maybe (text (codes ".") before many (one is_ascii_digit))) or (text (codes ".") before digits))
    before exponent
form kind.Decimal = many (one is_ascii_digit) before (text (codes ".") before digits)
form kind.Integer = digits
form kind.String = (short (byte "\"") or long (byte "\"")) or (short (byte "'") or long (byte "'"))
form kind.Symbol =
    one is_single
    or (text (codes "&&") or ((text (codes "|") before maybe (text (codes "|")))
    or ((text (codes "^") before maybe (text (codes "^"))) or (one begins_comparison before maybe (text (codes "="))))))

-- by code points
abbrev pub is_token : TokenKind → List ℕ → Bool
is_token kind cs = form kind ended cs

-- how many bytes its longest token at the front of a text has
unfoldable pub front_bytes : TokenKind → List ℕ → ℕ
front_bytes kind text = length (encode_utf8_all (longest_front (is_token kind) (chars text)))
