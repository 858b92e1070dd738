-- The first fault of a text is never want of memory.
use Rattle.std.proofs.Common.{◌≡◌, ℕ, Bool, true, false, List, Option, Some, None, Result, Ok, Err, refl, ap, sym, ◌∙◌}
use Rattle.std.specs.Bool.{then_some}
use Rattle.std.specs.Option.{option_map, option_map_or, option_or}
use Rattle.std.specs.Result.{result_err}
use Rattle.rsp_report.specs.Policies.{is_mixed}
use Rattle.rsp_query.specs.Queries.{Registered}
use Rattle.rsp_syntax.specs.Deciding.{parse}
use Rattle.rsp_syntax.specs.declared.fault.SyntaxFault.{SyntaxFault}
use Rattle.rsp_syntax.specs.declared.fault.SyntaxFault.TheVariants as grammar
use Rattle.rsp_syntax.proofs.Causes.{never_memory as parse_never}
use Rattle.rsp_translation.specs.declared.shape.Shape as code
use Rattle.rsp_translation.specs.declared.shape.Shape.TheVariants as shapes
use Rattle.rsp_translation.specs.Translation.{first_fault}
use Rattle.rsp_translation.proofs.Causes.{never_memory as translate_never}
use Rattle.rsp_engine.specs.declared.refused.TextFault.TheVariants.{Syntax, Shape, Policy}
use Rattle.rsp_engine.specs.Refusals.{sound, text_fault}

-- a query's fault is none of the grammar
no_syntax : (q : Registered) (found : Option code.Shape) (mixed : Bool) (fault : SyntaxFault)
    → result_err (option_map_or Err (option_or (option_map Shape found) (then_some mixed (Policy (record {})))) (Ok q)) ≡ Some (Syntax fault) → ⊥
no_syntax q (Some shape) mixed fault h = cc
no_syntax q None true fault h = cc
no_syntax q None false fault h = cc

syntax_by : (r : Result Registered SyntaxFault) → (r ≡ Err grammar.OutOfMemory → ⊥) → result_err (sound r) ≡ Some (Syntax grammar.OutOfMemory) → ⊥
syntax_by (Ok q) never h = no_syntax q (first_fault q) (is_mixed q.policy) grammar.OutOfMemory h
syntax_by (Err fault) never h = let is : fault ≡ grammar.OutOfMemory = cc in never (ap Err is)

pub never_syntax : (text : List ℕ) → text_fault text ≡ Some (Syntax grammar.OutOfMemory) → ⊥
never_syntax text h = syntax_by (parse text) (parse_never text) h

shape_of : (q : Registered) (found : Option code.Shape) (mixed : Bool)
    → result_err (option_map_or Err (option_or (option_map Shape found) (then_some mixed (Policy (record {})))) (Ok q)) ≡ Some (Shape shapes.OutOfMemory)
    → found ≡ Some shapes.OutOfMemory
shape_of q (Some shape) mixed h = let is : shape ≡ shapes.OutOfMemory = cc in ap Some is
shape_of q None true h = cc
shape_of q None false h = cc

shape_by : (r : Result Registered SyntaxFault) → result_err (sound r) ≡ Some (Shape shapes.OutOfMemory) → ⊥
shape_by (Ok q) h = translate_never q (shape_of q (first_fault q) (is_mixed q.policy) h)
shape_by (Err fault) h = cc

pub never_shape : (text : List ℕ) → text_fault text ≡ Some (Shape shapes.OutOfMemory) → ⊥
never_shape text h = shape_by (parse text) h
