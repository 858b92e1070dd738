-- Definitions: the connectives (SPARQL 1.1 Query, sections 17.2 and 17.4.1). None is an error.
use Rattle.std.specs.Prelude.{Bool, true, false, not, if◌then◌else◌, Option, Some, None, option_map, unwrap_or, is_some, List}
use Rattle.std.specs.Prelude.{map}
use Rattle.std.specs.List.{list_any, list_all}
use Rattle.std.specs.Option.{option_and_then}
use Rattle.rsp_terms.specs.declared.term.Term.{Term}
use Rattle.rsp_expr.specs.BooleanValues.{boolean_value, boolean_literal}

-- `!`
abbrev pub logical_not : Option Bool → Option Bool
logical_not part = option_map not part

-- `||` of all parts: true where a part is true, whatever the others are; else an error where one is; of none it is false
abbrev pub disjunction_of : List (Option Bool) → Option Bool
disjunction_of parts =
    if list_any (λ part. unwrap_or part false) parts then Some true
    else if list_all is_some parts then Some false
    else None

-- `&&` of all parts, by the law of De Morgan; of none it is true
abbrev pub conjunction_of : List (Option Bool) → Option Bool
conjunction_of parts = logical_not (disjunction_of (map logical_not parts))

-- the boolean value of a value that may be an error
abbrev pub truth_of : Option Term → Option Bool
truth_of value = option_and_then boolean_value value

-- the boolean as a value
abbrev pub boolean_result : Option Bool → Option Term
boolean_result truth = option_map boolean_literal truth
