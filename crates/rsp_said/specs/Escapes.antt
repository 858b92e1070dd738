-- Definitions: a text with its escapes replaced, character by character (SPARQL 1.1 Query, sections 19.2 and 19.8: UCHAR, ECHAR,
-- PN_LOCAL_ESC). In the local part of a prefixed name `\` goes, the character behind it stays, and `%` with its digits stays.
use Rattle.std.specs.Prelude.{ℕ, ◌==◌, if◌then◌else◌, Option, None, Some, List, [], ◌∷◌, ◌++◌}
use Rattle.std.specs.Str.{byte, chars, encode_utf8_all}
use Rattle.rsp_scan.specs.declared.escaping.Escape.TheVariants.{Begun}
use Rattle.rsp_scan.specs.declared.escaping.Escaped.{Escaped}
use Rattle.rsp_scan.specs.declared.escaping.Escaped.TheVariants.{More, Whole}
use Rattle.rsp_scan.specs.Escaping.{escape_step}
use Rattle.rsp_said.specs.declared.escapes.State.{State}
use Rattle.rsp_said.specs.declared.escapes.State.TheVariants.{Plain, Within, Local}

-- behind one character more of an escape; what is no escape has no character
abbrev pub behind : Option Escaped → State × Option ℕ
behind None = (Plain, None)
behind (Some (More escape)) = (Within escape, None)
behind (Some (Whole character)) = (Plain, Some character)

-- the state behind a character, and the character that stands there
abbrev pub step : State → ℕ → State × Option ℕ
step Plain c = if c == byte "\\" then (Within Begun, None) else (Plain, Some c)
step (Within escape) c = behind (escape_step escape c)
step Local c = if c == byte "\\" then (Local, None) else (Local, Some c)

abbrev pub only : Option ℕ → List ℕ
only None = []
only (Some c) = c ∷ []

abbrev pub unescaped : State → List ℕ → List ℕ
unescaped state [] = []
unescaped state (c ∷ cs) = only (step state c).1 ++ unescaped (step state c).0 cs

-- the same of a text in UTF-8
abbrev pub unescaped_text : State → List ℕ → List ℕ
unescaped_text state text = encode_utf8_all (unescaped state (chars text))
