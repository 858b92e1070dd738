-- The least instant of what is the same by two names.
use Rattle.std.specs.Prelude.{ℕ, Option, None, Some}
use Rattle.rsp_spec.specs.Instants.{IsLeastIn}

pub least_alike : (p q : ℕ → Type 0) → ((t : ℕ) → p t → q t) → ((t : ℕ) → q t → p t) → (from to : ℕ) (r : Option ℕ)
    → IsLeastIn p from to r → IsLeastIn q from to r
least_alike p q there back from to None is = λ t low high holds. is t low high (back t holds)
least_alike p q there back from to (Some least) is = (is.0, is.1, there least is.2, λ t low holds. is.3 t low (back t holds))
