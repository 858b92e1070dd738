-- Words of the way: copies of values that come into lists, or go out of them.
use Rattle.std.specs.Prelude.{◌≡◌, ℕ, suc, ◌+◌, ◌≤◌, Bool, true, false, List, [], ◌∷◌, ◌++◌, length}
use Rattle.std.specs.Prelude.{map, ⊤, ℤ, pos, negsuc, Option}
use Rattle.std.specs.List.{AllByRecursion}
use Rattle.rsp_spec.specs.Limits.{most_counted}
use Rattle.rsp_folds.specs.Copies.{copies}
use Rattle.rsp_multiset.specs.Rows.{Cells}
use Rattle.rsp_terms.specs.declared.term.Term.{Term}

-- the list with so many copies more, or, where they go out, without them
abbrev pub Moved : {E : Type 0} → Bool → ℕ → E → List E → List E → Type 0
Moved false n x before after = after ≡ copies n x ++ before
Moved true n x before after = before ≡ copies n x ++ after

-- so are many lists, by a value for each
abbrev pub AllMoved : {E : Type 0} → Bool → ℕ → List E → List (List E) → List (List E) → Type 0
AllMoved out n [] [] [] = ⊤
AllMoved out n (x ∷ xs) (before ∷ befores) (after ∷ afters) = Moved out n x before after × AllMoved out n xs befores afters
AllMoved out n xs befores afters = ⊥

-- so is a number
abbrev pub MovedCount : Bool → ℕ → ℕ → ℕ → Type 0
MovedCount false n before after = after ≡ before + n
MovedCount true n before after = before ≡ after + n

-- at most 2^32 values
abbrev pub IsShort : {E : Type 0} → List E → Type 0
IsShort xs = length xs ≤ most_counted

abbrev pub AreShort : {E : Type 0} → List (List E) → Type 0
AreShort {E} lists = AllByRecursion (λ (xs : List E). IsShort xs) lists

-- how many of an entry come in, or go out
abbrev pub part : Bool → ℤ → ℕ
part false (pos n) = n
part false (negsuc n) = 0
part true (pos n) = 0
part true (negsuc n) = suc n

-- what a fold, and many folds, may be given
pub record MayMove {E : Type 0} (Stands : List E → Type 0) (out : Bool) (n : ℕ) (x : E) : Type 0 where
  pub before : List E
  pub after : List E
  pub moved : Moved out n x before after
  pub stands : Stands before
  pub short : IsShort after

pub record MayAllMove {E : Type 0} (Stand : List (List E) → Type 0) (out : Bool) (n : ℕ) (xs : List E) : Type 0 where
  pub befores : List (List E)
  pub afters : List (List E)
  pub moved : AllMoved out n xs befores afters
  pub stand : Stand befores
  pub short : AreShort afters

-- the values of the arguments in one row, and in each of the rows
abbrev pub values_in : List (Cells Term → Option Term) → Cells Term → List (Option Term)
values_in arguments row = map (λ of. of row) arguments

abbrev pub columns : List (Cells Term → Option Term) → List (Cells Term) → List (List (Option Term))
columns arguments rows = map (λ of. map of rows) arguments

-- the aggregate of each list
abbrev pub results_over : List (List (Option Term) → Option Term) → List (List (Option Term)) → List (Option Term)
results_over (aggregate ∷ aggregates) (values ∷ lists) = aggregate values ∷ results_over aggregates lists
results_over aggregates lists = []
