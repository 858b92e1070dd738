-- Definitions: words and signs of SPARQL 1.1 that are left out here: where one is the first token that can't stand, it is named.
use Rattle.std.specs.Prelude.{ℕ, nat_eq, Bool, false, cond, List, [], ◌∷◌, ◌++◌, codes}
use Rattle.std.specs.List.{list_any}
use Rattle.std.specs.Str.{str_eq_ignore_ascii_case}
use Rattle.rsp_lex.specs.declared.token.TokenKind.{TokenKind}
use Rattle.rsp_lex.specs.declared.token.TokenKind.TheVariants as kind

-- a text cut at its blanks, behind what stands before
abbrev pub cut : List ℕ → List ℕ → List (List ℕ)
cut begun [] = begun ∷ []
cut begun (c ∷ more) = cond (nat_eq c 32) (begun ∷ cut [] more) (cut (begun ++ (c ∷ [])) more)

abbrev pub words : List (List ℕ)
words =
    cut [] (codes "ASK DESCRIBE CONSTRUCT BASE REDUCED ORDER LIMIT OFFSET SERVICE VALUES NOT EXISTS REGEX REPLACE UCASE LCASE")
    ++ (cut [] (codes "ENCODE_FOR_URI MD5 SHA1 SHA256 SHA384 SHA512 RAND NOW UUID STRUUID BNODE GROUP_CONCAT SAMPLE")
    ++ cut [] (codes "YEAR MONTH DAY HOURS MINUTES SECONDS TIMEZONE TZ"))

abbrev pub signs : List (List ℕ)
signs = cut [] (codes "* + ? !")

-- in any case of ASCII letters
abbrev pub is_among : List (List ℕ) → List ℕ → Bool
is_among names text = list_any (λ name. str_eq_ignore_ascii_case name text) names

unfoldable pub is_left_out : TokenKind → List ℕ → Bool
is_left_out kind.Word text = is_among words text
is_left_out kind.Symbol text = is_among signs text
is_left_out _ text = false
