use Rattle.std.proofs.Common.{◌≡◌, ◌+◌, ◌-◌, length}
use denote.Text.{Utf8}
use denote.Shadow.{shadow}
use Rattle.rsp_lex.specs.Tokens as words
use Rattle.rsp_lex.specs.Reach.{NoPrefixed}
use Rattle.rsp_lex.proofs.TokenLaws.{onto}
use Rattle.rsp_lex.proofs.lexing.all_tokens.Given as goal

abbrev pub invariant-loop : goal.invariant-loop
invariant-loop l =
    shadow (Utf8 l.rest)
    × (onto l.tokens.items (words.tokens_from (l.most - l.counter) l.at l.rest) ≡ words.tokens_from (length l.fn.text + 1) 0 l.fn.text)
    × (l.at + length l.rest ≡ length l.fn.text) × NoPrefixed l.rest l.bare
