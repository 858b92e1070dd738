-- The cells of a merge of rows of one length: the left row's where it is bound, else the right row's.
use Rattle.std.proofs.Common.{◌≡◌, ℕ, zero, suc, Option, Some, None, [], ◌∷◌, length, refl, sym, ap, ◌∙◌, arith}
use Rattle.std.specs.Option.{option_map}
use Rattle.std.proofs.lemmas.List.{length-map}
use Rattle.rsp_multiset.specs.Rows.{Cells, bound_in_either, merge}
use Rattle.rsp_multiset.specs.Shown.{shown_row}
use Rattle.rsp_multiset.specs.Variables.{cell}

module _ {W : Type 0} where
  merged-cell : (left right : Cells W) (v : ℕ) → length left ≡ length right → cell (merge left right) v ≡ bound_in_either (cell left v) (cell right v)
  merged-cell [] [] v long = refl
  merged-cell [] (y ∷ right) v long = let never : ⊥ = omega (arith, long) in absurd never
  merged-cell (x ∷ left) [] v long = let never : ⊥ = omega (arith, long) in absurd never
  merged-cell (x ∷ left) (y ∷ right) zero long = refl
  merged-cell (x ∷ left) (y ∷ right) (suc v) long =
      let rest : length left ≡ length right = omega (arith, long) in
      merged-cell left right v rest

  pub bound_left : (left right : Cells W) (v : ℕ) (x : W) → length left ≡ length right → Some x ≡ cell left v → Some x ≡ cell (merge left right) v
  bound_left left right v x long is = ap (λ (first : Option W). bound_in_either first (cell right v)) is ∙ sym (merged-cell left right v long)

  pub unbound_left : (left right : Cells W) (v : ℕ) (o : Option W) → length left ≡ length right → None ≡ cell left v → o ≡ cell right v → o ≡ cell (merge left right) v
  unbound_left left right v o long none is =
      is ∙ (ap (λ (first : Option W). bound_in_either first (cell right v)) none ∙ sym (merged-cell left right v long))

pub shown-long : {V W : Type 0} (shown : V → W) (left right : Cells V) → length left ≡ length right → length (shown_row shown left) ≡ length (shown_row shown right)
shown-long shown left right long = length-map left (option_map shown) ∙ (long ∙ sym (length-map right (option_map shown)))
