-- Rows that are given away: each copy counts, cells that are left stay, and a change of rows is cut entry by entry.
use Rattle.std.proofs.Common.{◌≡◌, ℕ, ◌+◌, Bool, true, false, ◌||◌, nat_eq, List, [], ◌∷◌, ◌++◌, ℤ, pos, ◌+ℤ◌, ◌*ℤ◌, refl, sym, ap, ◌∙◌, true≢false, arith}
use Rattle.std.proofs.lemmas.Int.{ints}
use Rattle.std.specs.Cmp.{nat_eq_equiv, unsigned_Decides}
use Rattle.std.specs.List.{list_any}
use Rattle.rsp_multiset.specs.Rows.{Cells, row_eq}
use Rattle.rsp_multiset.specs.Variables.{cell, among, cells_at}
use Rattle.rsp_multiset.specs.Weights.{only, times, total, weight}
use Rattle.rsp_multiset.proofs.KeySets.{first_among, later_among}
use Rattle.rsp_multiset.proofs.Sums.{sum_z-append}

one_more : (b : Bool) (n : ℕ) → only b (pos n) +ℤ only b (pos 1) ≡ only b (pos (n + 1))
one_more true n = omega (arith, ints)
one_more false n = omega (arith, ints)

pub none_more : (b : Bool) (held n : ℤ) → n ≡ pos 0 → held ≡ held +ℤ only b n
none_more true held n none = omega (arith, ints, none)
none_more false held n none = omega (arith, ints)

module _ {E : Type 0} (eq : E → E → Bool) where
  pushed : (before after : List E) (x q : E) → after ≡ before ++ x ∷ [] → times eq after q ≡ times eq before q +ℤ only (eq q x) (pos 1)
  pushed before after x q is =
      let split = sum_z-append (λ y. only (eq q y) (pos 1)) before (x ∷ []) in
      let there = ap (λ xs. times eq xs q) is in
      omega (arith, ints, split, there)

  -- one copy more
  pub copied : (before after : List E) (x q : E) (n : ℕ) (whole : ℤ) → after ≡ before ++ x ∷ []
      → times eq before q ≡ whole +ℤ only (eq q x) (pos n) → times eq after q ≡ whole +ℤ only (eq q x) (pos (n + 1))
  copied before after x q n whole is held =
      let more = pushed before after x q is in
      let step = one_more (eq q x) n in
      omega (arith, ints, more, step, held)

scaled : (b : Bool) (n : ℤ) → n *ℤ only b (pos 1) ≡ only b n
scaled true n = omega (arith, ints)
scaled false n = omega (arith, ints)

module _ {V : Type 0} (eq : V → V → Bool) where
  -- one entry more, with the cells for these variables
  pub cut_more : (variables : List ℕ) (before after left rest : List (Cells V × ℤ)) (row cut : Cells V) (n whole : ℤ) (q : Cells V)
      → left ≡ (row, n) ∷ rest → cut ≡ cells_at variables row
      → weight (row_eq eq) after q ≡ weight (row_eq eq) before q +ℤ only (row_eq eq q cut) n
      → weight (row_eq eq) before q +ℤ total (λ row. only (row_eq eq q (cells_at variables row)) (pos 1)) left ≡ whole
      → weight (row_eq eq) after q +ℤ total (λ row. only (row_eq eq q (cells_at variables row)) (pos 1)) rest ≡ whole
  cut_more variables before after left rest row cut n whole q is same altered so_far =
      let front = ap (total (λ row. only (row_eq eq q (cells_at variables row)) (pos 1))) is in
      let there = ap (λ c. only (row_eq eq q c) n) same in
      let once = scaled (row_eq eq q (cells_at variables row)) n in
      omega (arith, ints, front, there, once, altered, so_far)

apart : (v w : ℕ) (variables : List ℕ) → among variables v ≡ false → among variables w ≡ true → nat_eq w v ≡ false
apart v w variables none there = by (nat_eq w v) refl
  where
    by : (b : Bool) → nat_eq w v ≡ b → b ≡ false
    by true h = absurd (true≢false (sym there ∙ ap (among variables) ((unsigned_Decides w v).0 h) ∙ none))
    by false h = refl

cells-alike : {V : Type 0} (variables : List ℕ) (row other : Cells V) → ((v : ℕ) → among variables v ≡ true → cell row v ≡ cell other v)
    → cells_at variables row ≡ cells_at variables other
cells-alike [] row other alike = refl
cells-alike (v ∷ variables) row other alike = λ i.
    alike v (first_among v variables) i ∷ cells-alike variables row other (λ w h. alike w (later_among v variables w h)) i

turned-among : (v : ℕ) (variables : List ℕ) → list_any (λ w. nat_eq w v) variables ≡ among variables v
turned-among v [] = refl
turned-among v (w ∷ variables) = λ i. nat_eq_equiv.symm w v i || turned-among v variables i

-- the cells for variables among which that isn't whose cell was taken out
pub cells-left : {V : Type 0} (variables : List ℕ) (v : ℕ) (before after : Cells V) → list_any (λ w. nat_eq w v) variables ≡ false
    → ((w : ℕ) → nat_eq w v ≡ false → cell after w ≡ cell before w) → cells_at variables after ≡ cells_at variables before
cells-left variables v before after none others =
    let absent = sym (turned-among v variables) ∙ none in
    cells-alike variables after before (λ w there. others w (apart v w variables absent there))
