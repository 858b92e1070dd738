-- Definitions: what the call answers; want of memory alone is free.
use Rattle.std.specs.Prelude.{◌≡◌, ℕ, ⊤, List, Result, Ok, Err}
use Rattle.rsp_lex.specs.declared.token.Token.{Token}
use Rattle.rsp_lex.specs.declared.token.LexFault.{LexFault}
use Rattle.rsp_lex.specs.declared.token.LexFault.TheVariants.{BadToken, OutOfMemory}

abbrev pub IsLexed : Result (List Token) LexFault → Result (List Token) ℕ → Type 0
IsLexed (Ok tokens) reading = reading ≡ Ok tokens
IsLexed (Err (BadToken at)) reading = reading ≡ Err at
IsLexed (Err OutOfMemory) reading = ⊤
