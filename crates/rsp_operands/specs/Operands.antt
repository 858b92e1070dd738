-- Words of the way: what stands for a term between two steps of an evaluation.
use Rattle.std.specs.Prelude.{ℕ, Option, Some, None, option_map, List, [], ◌∷◌, ◌++◌}
use Rattle.std.specs.Option.{option_copied, option_and_then}
use Rattle.rsp_terms.specs.declared.term.Term.{Term}
use Rattle.rsp_expr.specs.BooleanValues.{boolean_literal}
use Rattle.rsp_expr.specs.Numerals.{numeral_literal}
use Rattle.rsp_expr.specs.Strings.{string_literal}
use Rattle.rsp_expr.specs.Comparing as comparing
use Rattle.rsp_expr.specs.Functions as functions
use Rattle.rsp_functions.specs.declared.function.Function.{Function}
use Rattle.rsp_operands.specs.declared.comparing.Comparable.{Comparable}
use Rattle.rsp_operands.specs.declared.comparing.Comparable.TheVariants as comparable
use Rattle.rsp_operands.specs.declared.operand.Operand.{Operand}
use Rattle.rsp_operands.specs.declared.operand.Operand.TheVariants as operand
use Rattle.rsp_operands.specs.declared.operand.Written.{Written}

-- the term that an operand stands for
abbrev pub term_for : Operand → Term
term_for (operand.Term term) = term
term_for (operand.Number number) = numeral_literal number
term_for (operand.Boolean value) = boolean_literal value
term_for (operand.String text) = string_literal text

abbrev pub value_for : Option Operand → Option Term
value_for value = option_map term_for value

abbrev pub written_for : Written → functions.Written
written_for written = record { text = written.text.now; tag = option_copied written.tag }

abbrev pub comparable_for : Comparable → comparing.Comparable
comparable_for (comparable.Number number) = comparing.number number
comparable_for (comparable.String text) = comparing.string text.now
comparable_for (comparable.Boolean value) = comparing.boolean value

-- what the terms add to a text, where each is a text
abbrev pub text_onto : List ℕ → Option functions.Written → Option (List ℕ)
text_onto front None = None
text_onto front (Some written) = Some (front ++ written.text)

abbrev pub texts_onto : Option (List ℕ) → List Term → Option (List ℕ)
texts_onto None terms = None
texts_onto (Some front) [] = Some front
texts_onto (Some front) (term ∷ terms) = texts_onto (text_onto front (functions.written_of term)) terms

abbrev pub tag_for : Term → Option (List ℕ)
tag_for term = option_and_then (λ (w : functions.Written). w.tag) (functions.written_of term)

-- functions by the number of their arguments
abbrev pub unary_value : Function → Term → Option Term
unary_value name term = functions.function_value name (term ∷ [])

abbrev pub binary_value : Function → Term → Term → Option Term
binary_value name left right = functions.function_value name (left ∷ right ∷ [])

abbrev pub ternary_value : Function → Term → Term → Term → Option Term
ternary_value name first second third = functions.function_value name (first ∷ second ∷ third ∷ [])
