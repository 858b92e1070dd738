-- Definitions: the words that forms of tokens are written with. A form says of a text whether some front of it is of this form
-- and what stands behind that front passes a test.
use Rattle.std.specs.Prelude.{ℕ, zero, suc, Bool, true, false, ◌&&◌, ◌||◌, ◌==◌, Option, None, Some, List, [], ◌∷◌, length}
use Rattle.std.specs.Str.{byte}
use Rattle.rsp_scan.specs.declared.escaping.Escape.{Escape}
use Rattle.rsp_scan.specs.declared.escaping.Escape.TheVariants.{Begun}
use Rattle.rsp_scan.specs.declared.escaping.Escaped.{Escaped}
use Rattle.rsp_scan.specs.declared.escaping.Escaped.TheVariants.{More, Whole}

abbrev pub Form : Type 0
Form = (List ℕ → Bool) → List ℕ → Bool

-- one character of a class
abbrev pub one : (ℕ → Bool) → Form
one test rest [] = false
one test rest (c ∷ cs) = test c && rest cs

infixr 20 ◌before◌
abbrev pub ◌before◌ : Form → Form → Form
(p before q) rest cs = p (q rest) cs

infixr 10 ◌or◌
abbrev pub ◌or◌ : Form → Form → Form
(p or q) rest cs = p rest cs || q rest cs

abbrev pub text : List ℕ → Form
text [] rest cs = rest cs
text (c ∷ more) rest cs = one (λ d. d == c) (text more rest) cs

abbrev pub maybe : Form → Form
maybe p rest cs = rest cs || p rest cs

-- at most so many, one behind the other
abbrev pub times : ℕ → Form → Form
times zero p rest cs = rest cs
times (suc n) p rest cs = rest cs || p (times n p rest) cs

-- any number
abbrev pub many : Form → Form
many p rest cs = times (length cs) p rest cs

abbrev pub some : Form → Form
some p = p before many p

-- behind a part of an escape
abbrev pub behind_part : (ℕ → Bool) → (Escape → Bool) → Bool → Option Escaped → Bool
behind_part test more rest None = false
behind_part test more rest (Some (More escape)) = more escape
behind_part test more rest (Some (Whole c)) = test c && rest

abbrev pub escaped : (Escape → ℕ → Option Escaped) → (ℕ → Bool) → Escape → Form
escaped step test escape rest [] = false
escaped step test escape rest (c ∷ cs) =
    behind_part test (λ next. escaped step test next rest cs) (rest cs) (step escape c)

-- an escape, by its steps behind `\`, of a character of a class
abbrev pub escape_of : (Escape → ℕ → Option Escaped) → (ℕ → Bool) → Form
escape_of step test = text (byte "\\" ∷ []) before escaped step test Begun

abbrev pub ended : List ℕ → Bool
ended [] = true
ended (c ∷ cs) = false
