-- Words of the way: the query that a text is, or why it is none, as a function of the text, in the order of its faults. What a
-- text is in the grammar's words (Texts) says the same, and the engine's definitions take it.
use Rattle.std.specs.Prelude.{◌≡◌, ⊤, ℕ, nat_lt, cond, List, [], ◌∷◌, Option, None, Some, Result, Ok, Err, map, length}
use Rattle.rsp_spec.specs.Limits.{most_text_bytes}
use Rattle.rsp_lex.specs.declared.token.Token.{Token}
use Rattle.rsp_lex.specs.Tokens.{tokens}
use Rattle.rsp_written.specs.declared.said.Said.{Said}
use Rattle.rsp_written.specs.GroupReadings.{query_read}
use Rattle.rsp_written.specs.declared.registration.Registration.{Registration}
use Rattle.rsp_written.specs.GroupMeanings.{written_of}
use Rattle.rsp_written.specs.Trees.{Written}
use Rattle.rsp_query.specs.Queries.{Registered}
use Rattle.rsp_numbering.specs.Clauses.{query_of}
use Rattle.rsp_numbering.specs.Limits.{limit_of}
use Rattle.rsp_numbering.specs.declared.limit.LimitName.{LimitName}
use Rattle.rsp_numbering.specs.declared.limit.LimitName.TheVariants as limit
use Rattle.rsp_syntax.specs.Parsing.{is_too_deep, said_token, wrong}
use Rattle.rsp_syntax.specs.declared.fault.SyntaxFault.{SyntaxFault}
use Rattle.rsp_syntax.specs.declared.fault.SyntaxFault.TheVariants.{BadToken, Syntax, LeftOut, Limit, OutOfMemory}

abbrev pub within : Written → Option LimitName → Result Registered SyntaxFault
within w None = Ok (query_of w)
within w (Some name) = Err (Limit name)

abbrev pub parse_written : Written → Result Registered SyntaxFault
parse_written w = within w (limit_of w)

abbrev pub whole : List ℕ → List Token → Result (Written × List Said) ℕ → Result Written SyntaxFault
whole text ts (Err left) = Err (wrong text ts left)
whole text ts (Ok (w, [])) = Ok w
whole text ts (Ok (w, token ∷ more)) = Err (wrong text ts (length (token ∷ more)))

abbrev pub registration_of : List ℕ → List Token → List Said → Result Written SyntaxFault
registration_of text ts all = whole text ts (query_read all)

abbrev pub numbered : Result Written SyntaxFault → Result Registered SyntaxFault
numbered (Ok w) = parse_written w
numbered (Err fault) = Err fault

abbrev pub parse_said : List ℕ → List Token → List Said → Result Registered SyntaxFault
parse_said text ts all = cond (is_too_deep 0 all) (Err (Limit limit.Nesting)) (numbered (registration_of text ts all))

abbrev pub parse_tokens : List ℕ → Result (List Token) ℕ → Result Registered SyntaxFault
parse_tokens text (Err at) = Err (BadToken at)
parse_tokens text (Ok ts) = parse_said text ts (map (said_token text) ts)

unfoldable pub parse : List ℕ → Result Registered SyntaxFault
parse text = cond (nat_lt most_text_bytes (length text)) (Err (Limit limit.Text)) (parse_tokens text (tokens text))

-- ---- what calls on the way answer; want of memory alone is free

abbrev pub IsFault : SyntaxFault → SyntaxFault → Type 0
IsFault OutOfMemory wanted = ⊤
IsFault (BadToken at) wanted = BadToken at ≡ wanted
IsFault (Syntax at) wanted = Syntax at ≡ wanted
IsFault (LeftOut at what) wanted = LeftOut at what ≡ wanted
IsFault (Limit what) wanted = Limit what ≡ wanted

abbrev pub IsRegistered : Result Registration SyntaxFault → Result Written SyntaxFault → Type 0
IsRegistered (Ok registration) wanted = wanted ≡ Ok (written_of registration)
IsRegistered (Err OutOfMemory) wanted = ⊤
IsRegistered (Err fault) wanted = wanted ≡ Err fault
