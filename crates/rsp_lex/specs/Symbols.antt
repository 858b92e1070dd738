-- Words of the way: symbols as an automaton: `{ } ( ) [ ] . ; , | || && ! = != < > <= >= + - * / ^ ^^ ?`.
use Rattle.std.specs.Prelude.{ℕ, Bool, true, false, ◌||◌, ◌==◌, if◌then◌else◌, Option, None, Some}
use Rattle.std.specs.Str.{byte}
use Rattle.rsp_lex.specs.declared.symbols.SymbolState.{SymbolState}
use Rattle.rsp_lex.specs.declared.symbols.SymbolState.TheVariants as symbol
use Rattle.rsp_lex.specs.Forms.{is_single}

abbrev pub symbol_start : ℕ → Option SymbolState
symbol_start c =
    if c == byte "&" then Some symbol.Ampersand
    else (if c == byte "|" then Some symbol.Bar
    else (if c == byte "^" then Some symbol.Caret
    else (if c == byte "!" || (c == byte "<" || c == byte ">") then Some symbol.BeforeEqual
    else (if is_single c then Some symbol.Whole else None))))

abbrev pub symbol_step : SymbolState → ℕ → Option SymbolState
symbol_step symbol.Start c = symbol_start c
symbol_step symbol.Ampersand c = if c == byte "&" then Some symbol.Whole else None
symbol_step symbol.Bar c = if c == byte "|" then Some symbol.Whole else None
symbol_step symbol.Caret c = if c == byte "^" then Some symbol.Whole else None
symbol_step symbol.BeforeEqual c = if c == byte "=" then Some symbol.Whole else None
symbol_step symbol.Whole c = None

-- a single `&` is none
abbrev pub symbol_ends : SymbolState → Bool
symbol_ends symbol.Start = false
symbol_ends symbol.Ampersand = false
symbol_ends _ = true
