-- What is said of an answer, if there is one, is so of the one that there is.
use Rattle.std.proofs.Common.{◌≡◌, Option, Some, subst}
use Rattle.std.specs.Prelude.{IfSome}

pub some-told : {T : Type 0} (P : T → Type 0) (answer : Option T) (x : T) → answer ≡ Some x → IfSome answer P → P x
some-told P answer x is told = subst (λ a. IfSome a P) is told
