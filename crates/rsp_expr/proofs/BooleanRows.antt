-- Worked rows: connectives of lists.
use Rattle.std.specs.Prelude.{◌≡◌, true, false, Some, None, [], ◌∷◌, refl}
use Rattle.rsp_expr.specs.Booleans.{disjunction_of, conjunction_of, logical_not}

disjunctions : (disjunction_of [] ∷ disjunction_of (None ∷ Some false ∷ Some true ∷ []) ∷ disjunction_of (Some false ∷ None ∷ [])
    ∷ disjunction_of (Some false ∷ Some false ∷ []) ∷ [])
    ≡ Some false ∷ Some true ∷ None ∷ Some false ∷ []
disjunctions = refl

conjunctions : (conjunction_of [] ∷ conjunction_of (None ∷ Some true ∷ Some false ∷ []) ∷ conjunction_of (Some true ∷ None ∷ [])
    ∷ conjunction_of (Some true ∷ Some true ∷ []) ∷ [])
    ≡ Some true ∷ Some false ∷ None ∷ Some true ∷ []
conjunctions = refl

negations : (logical_not (Some true) ∷ logical_not None ∷ []) ≡ Some false ∷ None ∷ []
negations = refl
