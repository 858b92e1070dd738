-- Definitions: what a text is in the grammar's words: the query that it is, or why it is none. The function `parse` says the
-- same; whoever believes this file needn't believe that one's way.
use Rattle.std.specs.Prelude.{◌≡◌, ◌⊎◌, ℕ, ◌≤◌, ◌<◌, true, false, List, [], ◌++◌, length, map, None, Some, Result, Ok, Err}
use Rattle.rsp_spec.specs.Limits.{most_text_bytes}
use Rattle.rsp_lex.specs.declared.token.Token.{Token}
use Rattle.rsp_lex.specs.Tokens.{tokens}
use Rattle.rsp_phrases.specs.Languages.{CannotGoOn}
use Rattle.rsp_written.specs.declared.said.Said.{Said}
use Rattle.rsp_written.specs.Grammar as grammar
use Rattle.rsp_written.specs.Trees.{Written}
use Rattle.rsp_query.specs.Queries.{Registered}
use Rattle.rsp_numbering.specs.Clauses.{query_of}
use Rattle.rsp_numbering.specs.Limits.{limit_of}
use Rattle.rsp_numbering.specs.declared.limit.LimitName.{LimitName}
use Rattle.rsp_numbering.specs.declared.limit.LimitName.TheVariants as limit
use Rattle.rsp_syntax.specs.Parsing.{is_too_deep, said_token, wrong}
use Rattle.rsp_syntax.specs.declared.fault.SyntaxFault.{SyntaxFault}
use Rattle.rsp_syntax.specs.declared.fault.SyntaxFault.TheVariants.{BadToken, Syntax, LeftOut, Limit, OutOfMemory}

-- what the tokens of a text say
abbrev pub all_said : List ℕ → List Token → List Said
all_said text ts = map (said_token text) ts

-- the text is no longer than it may be, these are its tokens, and their brackets aren't nested too deep
pub record HasTokens (text : List ℕ) (ts : List Token) : Type 0 where
  pub short : length text ≤ most_text_bytes
  pub cut : tokens text ≡ Ok ts
  pub flat : is_too_deep 0 (all_said text ts) ≡ false

-- all its tokens are an expansion of the grammar's `query`; the tree that is written is within the limits, and with numbers
-- in place of names it is the query
pub record IsQuery (text : List ℕ) (query : Registered) : Type 0 where
  pub ts : List Token
  pub has : HasTokens text ts
  pub written : Written
  pub spelled : grammar.query.full (all_said text ts) written
  pub within : limit_of written ≡ None
  pub is : query_of written ≡ query

-- from the first wrong token on so many are left: some expansion passes all before it, and none passes it too; where none is
-- left, what stands before is no query
pub record IsFirstWrong (all : List Said) (left : ℕ) : Type 0 where
  pub before : List Said
  pub rest : List Said
  pub whole : all ≡ before ++ rest
  pub place : length rest ≡ left
  pub begun : grammar.query.front before
  pub stopped : CannotGoOn grammar.query before rest
  pub unfinished : rest ≡ [] → (written : Written) → grammar.query.full before written → ⊥

-- the fault of the first wrong token
pub record IsNoQuery (text : List ℕ) (fault : SyntaxFault) : Type 0 where
  pub ts : List Token
  pub has : HasTokens text ts
  pub left : ℕ
  pub first : IsFirstWrong (all_said text ts) left
  pub is : wrong text ts left ≡ fault

-- brackets are nested too deep
pub record IsTooDeep (text : List ℕ) : Type 0 where
  pub ts : List Token
  pub short : length text ≤ most_text_bytes
  pub cut : tokens text ≡ Ok ts
  pub deep : is_too_deep 0 (all_said text ts) ≡ true

-- the tree that is written passes this limit first
pub record PassesLimit (text : List ℕ) (name : LimitName) : Type 0 where
  pub ts : List Token
  pub has : HasTokens text ts
  pub written : Written
  pub spelled : grammar.query.full (all_said text ts) written
  pub passed : limit_of written ≡ Some name

-- the text, its nesting, or the tree is past its limit
abbrev pub IsPast : List ℕ → LimitName → Type 0
IsPast text name =
    ((name ≡ limit.Text) × (most_text_bytes < length text)) ⊎ (((name ≡ limit.Nesting) × IsTooDeep text) ⊎ PassesLimit text name)

-- the text is this: a query, or none for this fault
abbrev pub IsText : List ℕ → Result Registered SyntaxFault → Type 0
IsText text (Ok query) = IsQuery text query
IsText text (Err (BadToken at)) = (length text ≤ most_text_bytes) × (tokens text ≡ Err at)
IsText text (Err (Syntax at)) = IsNoQuery text (Syntax at)
IsText text (Err (LeftOut at what)) = IsNoQuery text (LeftOut at what)
IsText text (Err (Limit name)) = IsPast text name
IsText text (Err OutOfMemory) = ⊥
