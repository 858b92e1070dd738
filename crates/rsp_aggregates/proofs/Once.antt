-- A fold of each value once, where copies of a value come or go.
use Rattle.std.proofs.Common.{◌≡◌, ℕ, ◌+◌, ◌≤◌, Bool, true, false, List, ◌∷◌, ◌++◌, ℤ, length, sym, arith}
use Rattle.std.specs.Prelude.{Option}
use Rattle.std.specs.Option.{option_eq}
use Rattle.rsp_folds.specs.Copies.{copies}
use Rattle.rsp_multiset.specs.RowSame.{cell_decides}
use Rattle.rsp_terms.specs.declared.term.Term.{Term}
use Rattle.rsp_terms.specs.Same.{term_eq, term_same}
use Rattle.rsp_aggregates.specs.Folds.{PlainStands, plain_alike, once, OnceStands}
use Rattle.rsp_aggregates.specs.Held.{HoldsValues, is_in, differ}
use Rattle.rsp_aggregates.specs.declared.plain.PlainFold.{PlainFold}
use Rattle.rsp_aggregates.proofs.Copying.{once-still, once-moved, once-within, some-moved}

module _ (errors errors' : ℕ) (terms terms' : List (Term × ℤ)) (fold fold' : PlainFold) (n : ℕ) (value : Option Term) (values : List (Option Term)) where
  abbrev all : List (Option Term)
  all = copies n value ++ values

  abbrev Crosses : Bool → Type 0
  Crosses b = differ (is_in value values) (is_in value all) ≡ b

  pub first-room : Crosses true → length values + n ≤ 4294967296 → length (once values) + 1 ≤ 4294967296
  first-room crosses room =
      let within = once-within (option_eq term_eq) values in
      let some = some-moved (cell_decides term_same) n value values crosses in
      omega (arith, within, some, room)

  pub first-taken : Crosses true → length values + n ≤ 4294967296 → HoldsValues errors' terms' all
      → ((list : List (Option Term)) → PlainStands fold list → length list + 1 ≤ 4294967296 → PlainStands fold' (value ∷ list))
      → OnceStands errors terms fold values → OnceStands errors' terms' fold' all
  first-taken crosses room holds law stands = record {
    holds = holds;
    folded = plain_alike fold' (value ∷ once values) (once all)
        (λ q. sym (once-moved (cell_decides term_same) n value values crosses q))
        (law (once values) stands.folded (first-room crosses room));
  }

  pub more-taken : Crosses false → HoldsValues errors' terms' all → OnceStands errors terms fold values → OnceStands errors' terms' fold all
  more-taken crosses holds stands = record {
    holds = holds;
    folded = plain_alike fold (once values) (once all) (λ q. sym (once-still (cell_decides term_same) n value values crosses q)) stands.folded;
  }

  pub last-there : Crosses true → OnceStands errors terms fold all → PlainStands fold (value ∷ once values)
  last-there crosses stands =
      plain_alike fold (once all) (value ∷ once values) (once-moved (cell_decides term_same) n value values crosses) stands.folded

  pub last-given : Crosses true → HoldsValues errors' terms' values
      → ((list : List (Option Term)) → PlainStands fold (value ∷ list) → PlainStands fold' list)
      → OnceStands errors terms fold all → OnceStands errors' terms' fold' values
  last-given crosses holds law stands = record { holds = holds; folded = law (once values) (last-there crosses stands) }

  pub some-given : Crosses false → HoldsValues errors' terms' values → OnceStands errors terms fold all → OnceStands errors' terms' fold values
  some-given crosses holds stands = record {
    holds = holds;
    folded = plain_alike fold (once all) (once values) (once-still (cell_decides term_same) n value values crosses) stands.folded;
  }
