-- Definitions: what the call answers; want of memory alone is free.
use Rattle.std.specs.Prelude.{◌≡◌, ⊤, Result, Ok, Err}
use Rattle.rsp_query.specs.declared.query.Query.{Query}
use Rattle.rsp_query.specs.Queries.{Registered}
use Rattle.rsp_query.specs.Meanings.{registered}
use Rattle.rsp_syntax.specs.declared.fault.SyntaxFault.{SyntaxFault}
use Rattle.rsp_syntax.specs.declared.fault.SyntaxFault.TheVariants.{BadToken, Syntax, LeftOut, Limit, OutOfMemory}

abbrev pub IsParsed : Result Query SyntaxFault → Result Registered SyntaxFault → Type 0
IsParsed (Ok query) wanted = wanted ≡ Ok (registered query)
IsParsed (Err OutOfMemory) wanted = ⊤
IsParsed (Err fault) wanted = wanted ≡ Err fault
