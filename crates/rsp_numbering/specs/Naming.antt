-- Definitions: the variables of a query and their numbers, by the first place in the text.
use Rattle.std.specs.Prelude.{ℕ, suc, Bool, true, false, ◌&&◌, nat_eq, cond, List, [], ◌∷◌, ◌++◌, codes, length}
use Rattle.std.specs.List.{list_any, position_or_len}
use Rattle.std.specs.Str.{bytes_eq}
use Rattle.rsp_numbering.specs.declared.variable.Variable.{Variable}
use Rattle.rsp_numbering.specs.declared.variable.Variable.TheVariants as variable
use Rattle.rsp_written.specs.Trees.{Item, shown, computed, Projection, every_name, these}

-- What is one variable: a name within one SELECT, a label in the whole text, a blank node in brackets or an aggregate by its
-- own number.
abbrev pub is_same : Variable → Variable → Bool
is_same (variable.Name m x) (variable.Name n y) = nat_eq m n && bytes_eq x y
is_same (variable.Label x) (variable.Label y) = bytes_eq x y
is_same (variable.Bracket m) (variable.Bracket n) = nat_eq m n
is_same (variable.Aggregate m) (variable.Aggregate n) = nat_eq m n
is_same _ _ = false

-- a SELECT, and the names that it shares with the SELECT round it
pub record Scope : Type 0 where
  pub number : ℕ
  pub shares : List ℕ → Bool

abbrev pub shown_name : Item → List ℕ
shown_name (shown x) = x
shown_name (computed e x) = x

abbrev pub is_shown : List Item → List ℕ → Bool
is_shown items x = list_any (λ item. bytes_eq (shown_name item) x) items

abbrev pub projects : Projection → List ℕ → Bool
projects every_name x = true
projects (these items) x = is_shown items x

-- The SELECT that a name belongs to, of those that stand round a place, the innermost first: what one projects it shares
-- with the SELECT round it (SPARQL 1.1 Query, section 12).
abbrev pub owner : List Scope → List ℕ → ℕ
owner [] x = 0
owner (here ∷ []) x = here.number
owner (here ∷ (outer ∷ more)) x = cond (here.shares x) (owner (outer ∷ more) x) here.number

abbrev pub named : List Scope → List ℕ → Variable
named at x = variable.Name (owner at x) x

-- what stands before a place of the text: how many SELECTs begin there, and the variables by their numbers
pub record Before : Type 0 where
  pub selects : ℕ
  pub variables : List Variable

-- before the text
abbrev pub nothing : Before
nothing = record { selects = 0; variables = [] }

-- the number of a variable: it has one, or gets the next
abbrev pub number : Before → Variable → ℕ
number before v = position_or_len (is_same v) before.variables

-- behind a place where the variable is named
abbrev pub with_variable : List Variable → Variable → List Variable
with_variable variables v = cond (list_any (is_same v) variables) variables (variables ++ (v ∷ []))

abbrev pub behind : Before → Variable → Before
behind before v = record { selects = before.selects; variables = with_variable before.variables v }

-- a blank node in brackets and an aggregate are new wherever they stand
abbrev pub bracket : Before → Variable
bracket before = variable.Bracket (length before.variables)

abbrev pub aggregate : Before → Variable
aggregate before = variable.Aggregate (length before.variables)

-- behind the word SELECT
abbrev pub behind_select : Before → Before
behind_select before = record { selects = suc before.selects; variables = before.variables }

abbrev pub scope : ℕ → Projection → List Scope → List Scope
scope number projection at = record { number = number; shares = projects projection } ∷ at

-- what a variable is called; what has no name in the text is called by what no variable can be
abbrev pub variable_text : Variable → List ℕ
variable_text (variable.Name n x) = x
variable_text (variable.Label x) = codes "_:" ++ x
variable_text (variable.Bracket n) = codes "[]"
variable_text (variable.Aggregate n) = codes "()"
