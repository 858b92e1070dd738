-- Definitions: values that may be errors (SPARQL 1.1 Query, section 17.2). None is an error.
use Rattle.std.specs.Prelude.{Option, Some, None, option_map, List, [], ◌∷◌}

-- what two values give; an error where one of them is an error
abbrev pub value_of_both : {A B C : Type 0} → (A → B → Option C) → Option A → Option B → Option C
value_of_both f None right = None
value_of_both f (Some left) None = None
value_of_both f (Some left) (Some right) = f left right

-- all of the values, where none is an error
abbrev pub all_values : {A : Type 0} → List (Option A) → Option (List A)
all_values [] = Some []
all_values (None ∷ values) = None
all_values (Some value ∷ values) = option_map (λ others. value ∷ others) (all_values values)

-- the first value that isn't an error
abbrev pub first_value : {A : Type 0} → List (Option A) → Option A
first_value [] = None
first_value (None ∷ values) = first_value values
first_value (Some value ∷ values) = Some value
