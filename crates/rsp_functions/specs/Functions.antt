-- Definitions: the functions that are called by a name (SPARQL 1.1 Query, section 17.4), each with its word and the number of
-- its arguments.
use Rattle.std.specs.Prelude.{ℕ, List, [], ◌∷◌, codes}
use Rattle.rsp_functions.specs.declared.function.Function.{Function}
use Rattle.rsp_functions.specs.declared.function.Function.TheVariants as function
use Rattle.rsp_functions.specs.declared.function.Arity.{Arity}
use Rattle.rsp_functions.specs.declared.function.Arity.TheVariants as arity

abbrev pub row_of : Function → List ℕ × Arity
row_of function.If = (codes "IF", arity.Three)
row_of function.Coalesce = (codes "COALESCE", arity.Any)
row_of function.SameTerm = (codes "SAMETERM", arity.Two)
row_of function.IsIri = (codes "ISIRI", arity.One)
row_of function.IsUri = (codes "ISURI", arity.One)
row_of function.IsBlank = (codes "ISBLANK", arity.One)
row_of function.IsLiteral = (codes "ISLITERAL", arity.One)
row_of function.IsNumeric = (codes "ISNUMERIC", arity.One)
row_of function.Str = (codes "STR", arity.One)
row_of function.Lang = (codes "LANG", arity.One)
row_of function.Datatype = (codes "DATATYPE", arity.One)
row_of function.Iri = (codes "IRI", arity.One)
row_of function.Uri = (codes "URI", arity.One)
row_of function.StrDt = (codes "STRDT", arity.Two)
row_of function.StrLang = (codes "STRLANG", arity.Two)
row_of function.StrLen = (codes "STRLEN", arity.One)
row_of function.Substr = (codes "SUBSTR", arity.TwoOrThree)
row_of function.Contains = (codes "CONTAINS", arity.Two)
row_of function.StrStarts = (codes "STRSTARTS", arity.Two)
row_of function.StrEnds = (codes "STRENDS", arity.Two)
row_of function.StrBefore = (codes "STRBEFORE", arity.Two)
row_of function.StrAfter = (codes "STRAFTER", arity.Two)
row_of function.Concat = (codes "CONCAT", arity.Any)
row_of function.LangMatches = (codes "LANGMATCHES", arity.Two)
row_of function.Abs = (codes "ABS", arity.One)
row_of function.Ceil = (codes "CEIL", arity.One)
row_of function.Floor = (codes "FLOOR", arity.One)
row_of function.Round = (codes "ROUND", arity.One)

-- all of them
abbrev pub functions : List Function
functions =
    function.If ∷ function.Coalesce ∷ function.SameTerm ∷ function.IsIri ∷ function.IsUri ∷ function.IsBlank
    ∷ function.IsLiteral ∷ function.IsNumeric ∷ function.Str ∷ function.Lang ∷ function.Datatype ∷ function.Iri ∷ function.Uri
    ∷ function.StrDt ∷ function.StrLang ∷ function.StrLen ∷ function.Substr ∷ function.Contains ∷ function.StrStarts
    ∷ function.StrEnds ∷ function.StrBefore ∷ function.StrAfter ∷ function.Concat ∷ function.LangMatches ∷ function.Abs
    ∷ function.Ceil ∷ function.Floor ∷ function.Round ∷ []
