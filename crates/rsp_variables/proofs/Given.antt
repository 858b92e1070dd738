-- What given rows bind, as the code asks for it.
use Rattle.std.proofs.Common.{◌≡◌, ℕ, ◌<◌, ◌≤◌, ◌==◌, Bool, false, true≢false, ◌&&◌, ◌||◌, nat_eq, is_some, List, [], ◌∷◌, length, refl, sym, ap, ◌∙◌, ◌⊎◌, inl, inr, arith}
use Rattle.std.specs.List.{flat_map, list_all, list_any, range_with_len}
use Rattle.std.proofs.lemmas.Bool.{cases_lt}
use Rattle.rsp_multiset.specs.Rows.{Cells}
use Rattle.rsp_terms.specs.declared.term.Term.{Term}
use Rattle.rsp_algebra.specs.Patterns.{cell, among}
use Rattle.rsp_algebra.specs.Work.{bound_in_all}
use Rattle.rsp_algebra.proofs.Bindings.{past_cell}
use Rattle.rsp_algebra.proofs.Subtrees.{any-append}
use Rattle.rsp_variables.specs.Possible.{bound_variables}
use Rattle.rsp_variables.proofs.Below.{in_range, range_past}
use Rattle.rsp_variables.proofs.Rows.{among-filter}

-- a test that fails past the range is asked within it alone
ranged : (p : ℕ → Bool) (n v : ℕ) → (n ≤ v → p v ≡ false) → (among (range_with_len 0 n) v && p v) ≡ p v
ranged p n v past = by (cases_lt v n)
  where
    by : (v < n) ⊎ (n ≤ v) → (among (range_with_len 0 n) v && p v) ≡ p v
    by (inl low) = ap (λ b. b && p v) (in_range n 0 v (omega arith) (omega (arith, low)))
    by (inr high) = ap (λ b. b && p v) (range_past n 0 v (omega (arith, high))) ∙ sym (past high)

bound-there : (row : Cells Term) (v : ℕ) → among (bound_variables row) v ≡ is_some (cell row v)
bound-there row v =
    among-filter (λ v. is_some (cell row v)) (range_with_len 0 (length row)) v
    ∙ ranged (λ v. is_some (cell row v)) (length row) v (λ past. ap is_some (past_cell row v past))

pub some-there : (rows : List (Cells Term)) (v : ℕ) → list_any (λ row. is_some (cell row v)) rows ≡ among (flat_map bound_variables rows) v
some-there [] v = refl
some-there (row ∷ rows) v =
    let here = sym (bound-there row v) in
    let rest = some-there rows v in
    (λ i. here i || rest i) ∙ sym (any-append (nat_eq v) (bound_variables row) (flat_map bound_variables rows))

pub all-there : (row : Cells Term) (rows : List (Cells Term)) (v : ℕ) → list_all (λ other. is_some (cell other v)) (row ∷ rows) ≡ among (bound_in_all (row ∷ rows)) v
all-there row rows v =
    sym
    (among-filter (λ v. list_all (λ other. is_some (cell other v)) (row ∷ rows)) (range_with_len 0 (length row)) v
    ∙ ranged (λ v. list_all (λ other. is_some (cell other v)) (row ∷ rows)) (length row) v
    (λ past. ap (λ b. b && list_all (λ other. is_some (cell other v)) rows) (ap is_some (past_cell row v past))))

pub all-given : (rows : List (Cells Term)) (v : ℕ) → (length rows == 0) ≡ false → list_all (λ other. is_some (cell other v)) rows ≡ among (bound_in_all rows) v
all-given [] v some = absurd (true≢false some)
all-given (row ∷ rows) v some = all-there row rows v
