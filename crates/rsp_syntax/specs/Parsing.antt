-- Definitions: what a text's tokens say, how deep its brackets go, and the fault of its first wrong token.
use Rattle.std.specs.Prelude.{ℕ, suc, ◌-◌, Bool, false, ◌||◌, nat_lt, cond, List, [], ◌∷◌, length, take, drop}
use Rattle.rsp_spec.specs.Limits.{most_open}
use Rattle.rsp_lex.specs.declared.token.Token.{Token}
use Rattle.rsp_said.specs.Saying.{said_of}
use Rattle.rsp_written.specs.declared.said.Said.{Said}
use Rattle.rsp_written.specs.declared.said.Kind as written
use Rattle.rsp_written.specs.declared.said.Kind.TheVariants as said
use Rattle.rsp_written.specs.declared.said.Symbol.TheVariants as symbol
use Rattle.rsp_syntax.specs.LeftOut.{is_left_out}
use Rattle.rsp_syntax.specs.declared.fault.SyntaxFault.{SyntaxFault}
use Rattle.rsp_syntax.specs.declared.fault.SyntaxFault.TheVariants.{Syntax, LeftOut}

-- ---- what the tokens of a text say

abbrev pub text_of : List ℕ → Token → List ℕ
text_of text token = take (token.end - token.start) (drop token.start text)

abbrev pub said_token : List ℕ → Token → Said
said_token text token = said_of token.kind (text_of text token) token.start

-- ---- nesting: each closing sign closes the last opening one, of whatever kind; where none is open it closes nothing

abbrev pub depth_behind : ℕ → written.Kind → ℕ
depth_behind depth (said.Symbol symbol.OpenBrace) = suc depth
depth_behind depth (said.Symbol symbol.OpenParen) = suc depth
depth_behind depth (said.Symbol symbol.OpenBracket) = suc depth
depth_behind depth (said.Symbol symbol.CloseBrace) = depth - 1
depth_behind depth (said.Symbol symbol.CloseParen) = depth - 1
depth_behind depth (said.Symbol symbol.CloseBracket) = depth - 1
depth_behind depth _ = depth

-- more are open at some token than may be
abbrev pub is_too_deep : ℕ → List Said → Bool
is_too_deep depth [] = false
is_too_deep depth (token ∷ more) =
    nat_lt most_open (depth_behind depth token.kind) || is_too_deep (depth_behind depth token.kind) more

-- ---- the first token that can't stand

abbrev pub wrong_token : List ℕ → Token → SyntaxFault
wrong_token text token =
    cond (is_left_out token.kind (text_of text token)) (LeftOut token.start (text_of text token)) (Syntax token.start)

-- where none is left, the text is unfinished
abbrev pub first_wrong : List ℕ → List Token → SyntaxFault
first_wrong text [] = Syntax (length text)
first_wrong text (token ∷ more) = wrong_token text token

-- so many tokens are left from the first wrong one
abbrev pub wrong : List ℕ → List Token → ℕ → SyntaxFault
wrong text ts left = first_wrong text (drop (length ts - left) ts)
