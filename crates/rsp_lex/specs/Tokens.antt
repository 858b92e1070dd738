-- Definitions: the tokens of a text: at each place behind white space and comments the longest, and of equally long ones the
-- kind that stands first. Places count bytes.
use Rattle.std.specs.Prelude.{ℕ, zero, suc, ◌+◌, Bool, true, false, not, ◌||◌, ◌==◌, nat_lt, if◌then◌else◌, Option, None, Some}
use Rattle.std.specs.Prelude.{List, [], ◌∷◌, length, take, drop, Result, Ok, Err}
use Rattle.std.specs.List.{fold}
use Rattle.std.specs.Option.{option_map_or}
use Rattle.std.specs.Str.{byte, chars, encode_utf8_all}
use Rattle.rsp_lex.specs.declared.token.Token.{Token}
use Rattle.rsp_lex.specs.declared.token.TokenKind.{TokenKind}
use Rattle.rsp_lex.specs.declared.token.TokenKind.TheVariants as kind
use Rattle.rsp_lex.specs.declared.lexing.Front.{Front}
use Rattle.rsp_scan.specs.Fronts.{longest_front}
use Rattle.rsp_lex.specs.Patterns.{ended}
use Rattle.rsp_lex.specs.Forms.{front_bytes, gap}

-- ---- white space and comments

unfoldable pub gap_bytes : List ℕ → ℕ
gap_bytes text = length (encode_utf8_all (longest_front (gap ended) (chars text)))

-- ---- the longest token at the front of a text

abbrev pub longer : Front → TokenKind → List ℕ → Front
longer best kind text =
    if nat_lt best.len (front_bytes kind text) then record { kind = kind; len = front_bytes kind text } else best

abbrev pub further_kinds : List TokenKind
further_kinds =
    kind.Prefixed ∷ kind.Label ∷ kind.Variable ∷ kind.Span ∷ kind.Word ∷ kind.Tag ∷ kind.Double ∷ kind.Decimal ∷ kind.Integer
    ∷ kind.String ∷ kind.Symbol ∷ []

unfoldable pub token_at : List ℕ → Front
token_at text =
    fold (λ best kind. longer best kind text) (record { kind = kind.Iri; len = front_bytes kind.Iri text }) further_kinds

-- ---- all tokens, or the place where none begins

abbrev pub before : Token → Result (List Token) ℕ → Result (List Token) ℕ
before token (Ok tokens) = Ok (token ∷ tokens)
before token (Err at) = Err at

-- `most` bounds the number of tokens; a text has no more than bytes
unfoldable pub tokens_from : ℕ → ℕ → List ℕ → Result (List Token) ℕ
tokens_from zero place text = Err place
tokens_from (suc most) place text =
    let start = place + gap_bytes text in
    let behind = drop (gap_bytes text) text in
    let front = token_at behind in
    if length behind == 0 then Ok []
    else (if front.len == 0 then Err start
    else before (record { kind = front.kind; start = start; end = start + front.len })
    (tokens_from most (start + front.len) (drop front.len behind)))

abbrev pub tokens : List ℕ → Result (List Token) ℕ
tokens text = tokens_from (length text + 1) 0 text
