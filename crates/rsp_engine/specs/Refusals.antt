-- Definitions: the query that a text registers, or the text's first fault.
use Rattle.std.specs.Prelude.{ℕ, List, Option, Result, Ok, Err}
use Rattle.std.specs.Bool.{then_some}
use Rattle.std.specs.Option.{option_map, option_map_or, option_or}
use Rattle.std.specs.Result.{result_err}
use Rattle.rsp_report.specs.Policies.{is_mixed}
use Rattle.rsp_query.specs.Queries.{Registered}
use Rattle.rsp_syntax.specs.Deciding.{parse}
use Rattle.rsp_syntax.specs.declared.fault.SyntaxFault.{SyntaxFault}
use Rattle.rsp_translation.specs.Translation.{first_fault}
use Rattle.rsp_engine.specs.declared.refused.TextFault.{TextFault}
use Rattle.rsp_engine.specs.declared.refused.TextFault.TheVariants.{Syntax, Shape, Policy}

-- the fault of a query's shape, or else of its policy
abbrev pub query_fault : Registered → Option TextFault
query_fault q = option_or (option_map Shape (first_fault q)) (then_some (is_mixed q.policy) (Policy (record {})))

-- a fault of the grammar and its limits comes before those of the query
abbrev pub sound : Result Registered SyntaxFault → Result Registered TextFault
sound (Ok q) = option_map_or Err (query_fault q) (Ok q)
sound (Err fault) = Err (Syntax fault)

abbrev pub read : List ℕ → Result Registered TextFault
read text = sound (parse text)

abbrev pub text_fault : List ℕ → Option TextFault
text_fault text = result_err (read text)
