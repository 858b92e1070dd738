-- Rows as they are built, cell by cell.
use Rattle.std.proofs.Common.{◌≡◌, ℕ, ◌+◌, List, [], ◌∷◌, ◌++◌, map, sym, ◌∙◌, ap, arith}
use Rattle.std.specs.List.{range_with_len}
use Rattle.std.proofs.lemmas.List.FromFn.{map-range_with_len_more}

pub one_cell_more : {X : Type 0} (f : ℕ → X) (v : ℕ) (before after : List X) (c : X) → before ≡ map f (range_with_len 0 v) → after ≡ before ++ c ∷ [] → c ≡ f v → after ≡ map f (range_with_len 0 (v + 1))
one_cell_more f v before after c is pushed value =
    pushed
    ∙ (ap (λ cs. cs ++ c ∷ []) is
    ∙ (ap (λ x. map f (range_with_len 0 v) ++ x ∷ []) value ∙ sym (map-range_with_len_more f 0 v v (omega arith))))
