-- Words of the way: the variables before a place as the code keeps them: its test of two of them is the definition's.
use Rattle.std.specs.Prelude.{◌≡◌, ℕ, Bool, true, nat_lt, List, length, refl}
use Rattle.std.specs.List.{list_all, position_or_len}
use Rattle.rsp_numbering.specs.declared.variable.Variable.{Variable}
use Rattle.rsp_numbering.specs.declared.variable.Variable.TheVariants.{Name, Label, Bracket, Aggregate}
use Rattle.rsp_numbering.specs.contracts.variable.VariablePartialEq.TheImpl.{ghosts as derived}
use Rattle.rsp_numbering.specs.Naming.{is_same}

abbrev pub name : ℕ → List ℕ → Variable
name select x = Name select x

abbrev pub label : List ℕ → Variable
label x = Label x

-- the place of a variable among those that are there, or behind them
abbrev pub place_of : List Variable → Variable → ℕ
place_of variables v = position_or_len (is_same v) variables

-- the test that the program computes
abbrev pub derived_same : Variable → Variable → Bool
derived_same = derived.eq

pub same_is : (v w : Variable) → derived_same v w ≡ is_same v w
same_is (Name m x) (Name n y) = refl
same_is (Label x) (Label y) = refl
same_is (Bracket m) (Bracket n) = refl
same_is (Aggregate m) (Aggregate n) = refl
same_is _ _ = refl

pub same_test : (v : Variable) → derived_same v ≡ is_same v
same_test v = λ i w. same_is v w i

pub same_tests : derived_same ≡ is_same
same_tests = λ i v w. same_is v w i

-- what has a number of its own has one below this
abbrev pub is_older : ℕ → Variable → Bool
is_older n (Name select x) = true
is_older n (Label x) = true
is_older n (Bracket k) = nat_lt k n
is_older n (Aggregate k) = nat_lt k n

-- each variable before a place has its number there
abbrev pub are_older : List Variable → Bool
are_older variables = list_all (is_older (length variables)) variables
