-- Definitions: what is made of a part of a query's text, from what stands before it, and what then stands behind it.
use Rattle.std.specs.Prelude.{ℕ, ◌+◌, List, [], ◌∷◌, ◌++◌, Option, None, Some}
use Rattle.rsp_expr.specs.Formulas.{Aggregation}
use Rattle.rsp_numbering.specs.declared.variable.Variable.{Variable}
use Rattle.rsp_numbering.specs.Naming.{Scope, Before, nothing, number, behind, behind_select, named}

-- what stands before a place; the aggregates of its SELECT so far, each with the variable that stands for it; and how many
-- operators stand before it
pub record State : Type 0 where
  pub before : Before
  pub aggregates : List (ℕ × Aggregation)
  pub operators : ℕ

-- before the text
abbrev pub start : State
start = record { before = nothing; aggregates = []; operators = 0 }

abbrev pub Numbered : Type 0 → Type 0
Numbered A = State → A × State

-- ---- nothing of the text; one part and then the next; what is made of a part

abbrev pub give : {A : Type 0} → A → Numbered A
give a state = (a, state)

infixl 10 ◌>>=◌
abbrev pub ◌>>=◌ : {A B : Type 0} → Numbered A → (A → Numbered B) → Numbered B
(part >>= next) state = next (part state).0 (part state).1

abbrev pub making : {A B : Type 0} → (A → B) → Numbered A → Numbered B
making f part = part >>= λ a. give (f a)

abbrev pub each : {X A : Type 0} → (X → Numbered A) → List X → Numbered (List A)
each f [] = give []
each f (x ∷ more) = f x >>= λ first. making (λ others. first ∷ others) (each f more)

abbrev pub maybe : {X A : Type 0} → (X → Numbered A) → Option X → Numbered (Option A)
maybe f None = give None
maybe f (Some x) = making Some (f x)

-- a part that has so many operators by itself
abbrev pub counting : {A : Type 0} → ℕ → Numbered A → Numbered A
counting n part state = part (record state { operators = state.operators + n })

-- ---- the number of a variable; of a name

abbrev pub numbered : (Before → Variable) → Numbered ℕ
numbered variable state =
    (number state.before (variable state.before), record state { before = behind state.before (variable state.before) })

abbrev pub numbered_name : List Scope → List ℕ → Numbered ℕ
numbered_name at x = numbered (λ before. named at x)

-- ---- SELECTs

-- how many stand before the word SELECT that comes now
abbrev pub opened : Numbered ℕ
opened state = (state.before.selects, record state { before = behind_select state.before })

-- a part whose aggregates aren't those of the SELECT round it
abbrev pub apart : {A : Type 0} → Numbered A → Numbered A
apart part state =
    let made = part (record state { aggregates = [] }) in (made.0, record made.1 { aggregates = state.aggregates })

abbrev pub aggregates_so_far : Numbered (List (ℕ × Aggregation))
aggregates_so_far state = (state.aggregates, state)

abbrev pub put_aggregate : ℕ × Aggregation → Numbered ℕ
put_aggregate entry state = (entry.0, record state { aggregates = state.aggregates ++ (entry ∷ []) })
