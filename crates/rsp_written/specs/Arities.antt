-- Definitions: how many arguments a call by a name has.
use Rattle.rsp_functions.specs.declared.function.Arity.{Arity}
use Rattle.rsp_functions.specs.declared.function.Arity.TheVariants as arity
use Rattle.rsp_functions.specs.Functions.{row_of}
use Rattle.rsp_written.specs.declared.said.Keyword.TheVariants as keyword
use Rattle.rsp_written.specs.declared.said.Kind.{Kind}
use Rattle.rsp_written.specs.declared.said.Kind.TheVariants as kind

-- of a kind that names no function, whichever
abbrev pub arity_of : Kind → Arity
arity_of (kind.Word (keyword.Call f)) = (row_of f).1
arity_of _ = arity.One
