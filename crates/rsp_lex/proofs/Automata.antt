-- What the automaton of all kinds accepts, by its next character.
use Rattle.std.proofs.Common.{◌≡◌, ℕ, Bool, true, false, List, refl, if◌then◌else◌, Option, Some, None}
use Rattle.std.specs.Prelude.{◌&&◌, ◌||◌}
use Rattle.std.specs.Option.{option_map, option_map_or}
use Rattle.rsp_scan.specs.Machines.{accepts}
use Rattle.rsp_lex.specs.declared.machine.State.{State}
use Rattle.rsp_lex.specs.Kinds.{token_machine}

abbrev pub from : State → List ℕ → Bool
from s cs = accepts token_machine s cs

abbrev pub on : Option State → List ℕ → Bool
on o cs = option_map_or (λ t. from t cs) o false

pub or_none : (b : Bool) → b ≡ (b || false)
or_none true = refl
or_none false = refl

-- where one character of a class goes on, and no other
pub chosen : {S : Type 0} (wrap : S → State) (s : S) (cs : List ℕ) (b : Bool)
    → on (option_map wrap (if b then Some s else None)) cs ≡ (b && from (wrap s) cs)
chosen wrap s cs true = refl
chosen wrap s cs false = refl

pub chosen_or : {S : Type 0} (wrap : S → State) (s : S) (cs : List ℕ) (b : Bool)
    → on (option_map wrap (if b then Some s else None)) cs ≡ ((b && from (wrap s) cs) || false)
chosen_or wrap s cs true = or_none (from (wrap s) cs)
chosen_or wrap s cs false = refl
