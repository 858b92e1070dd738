-- Rows as they are built, cell by cell, and the variables of `*`.
use Rattle.std.proofs.Common.{◌≡◌, ℕ, ◌+◌, Bool, cond, List, [], ◌∷◌, ◌++◌, map, filter, sym, ◌∙◌, ap, arith}
use Rattle.std.specs.List.{range_with_len}
use Rattle.std.proofs.lemmas.List.FromFn.{map-range_with_len_more, filter_of_map_range_with_len_more}
use Rattle.std.proofs.lemmas.List.{map-id}

pub one_cell_more : {X : Type 0} (f : ℕ → X) (v : ℕ) (before after : List X) (c : X) → before ≡ map f (range_with_len 0 v) → after ≡ before ++ c ∷ [] → c ≡ f v → after ≡ map f (range_with_len 0 (v + 1))
one_cell_more f v before after c is pushed value =
    pushed
    ∙ (ap (λ cs. cs ++ c ∷ []) is
    ∙ (ap (λ x. map f (range_with_len 0 v) ++ x ∷ []) value ∙ sym (map-range_with_len_more f 0 v v (omega arith))))

one_number_more : (p : ℕ → Bool) (v : ℕ) → filter p (range_with_len 0 (v + 1)) ≡ filter p (range_with_len 0 v) ++ cond (p v) (v ∷ []) []
one_number_more p v =
    ap (filter p) (sym (map-id (range_with_len 0 (v + 1))))
    ∙ (filter_of_map_range_with_len_more p (λ x. x) 0 v v (omega arith)
    ∙ ap (λ vs. filter p vs ++ cond (p v) (v ∷ []) []) (map-id (range_with_len 0 v)))

pub one_variable_more : (p : ℕ → Bool) (v : ℕ) (before after : List ℕ) (wanted : Bool) → before ≡ filter p (range_with_len 0 v) → after ≡ before ++ cond wanted (v ∷ []) [] → wanted ≡ p v → after ≡ filter p (range_with_len 0 (v + 1))
one_variable_more p v before after wanted is pushed value =
    pushed
    ∙ (ap (λ vs. vs ++ cond wanted (v ∷ []) []) is
    ∙ (ap (λ b. filter p (range_with_len 0 v) ++ cond b (v ∷ []) []) value ∙ sym (one_number_more p v)))
