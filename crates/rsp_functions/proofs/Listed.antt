-- No function is forgotten in the list of all of them.
use Rattle.std.proofs.Common.{refl, arith}
use Rattle.std.specs.List.{Contains}
use Rattle.rsp_functions.specs.declared.function.Function.{Function}
use Rattle.rsp_functions.specs.declared.function.Function.TheVariants as function
use Rattle.rsp_functions.specs.Functions.{functions}

pub listed : (f : Function) → Contains functions f
listed function.If = (0, omega arith, refl)
listed function.Coalesce = (1, omega arith, refl)
listed function.SameTerm = (2, omega arith, refl)
listed function.IsIri = (3, omega arith, refl)
listed function.IsUri = (4, omega arith, refl)
listed function.IsBlank = (5, omega arith, refl)
listed function.IsLiteral = (6, omega arith, refl)
listed function.IsNumeric = (7, omega arith, refl)
listed function.Str = (8, omega arith, refl)
listed function.Lang = (9, omega arith, refl)
listed function.Datatype = (10, omega arith, refl)
listed function.Iri = (11, omega arith, refl)
listed function.Uri = (12, omega arith, refl)
listed function.StrDt = (13, omega arith, refl)
listed function.StrLang = (14, omega arith, refl)
listed function.StrLen = (15, omega arith, refl)
listed function.Substr = (16, omega arith, refl)
listed function.Contains = (17, omega arith, refl)
listed function.StrStarts = (18, omega arith, refl)
listed function.StrEnds = (19, omega arith, refl)
listed function.StrBefore = (20, omega arith, refl)
listed function.StrAfter = (21, omega arith, refl)
listed function.Concat = (22, omega arith, refl)
listed function.LangMatches = (23, omega arith, refl)
listed function.Abs = (24, omega arith, refl)
listed function.Ceil = (25, omega arith, refl)
listed function.Floor = (26, omega arith, refl)
listed function.Round = (27, omega arith, refl)
