-- Rows of terms, as rows of values that show them.
use Rattle.std.proofs.Common.{◌≡◌, ◌<◌, ◌≤◌, ◌+◌, ℕ, zero, suc, Bool, true, false, Option, List, [], ◌∷◌, ◌++◌, ℤ, pos, ◌+ℤ◌, length, drop, get_or, refl, sym, ap, subst, ◌∙◌, arith, Decides}
use Rattle.std.specs.List.{AllByRecursion}
use Rattle.std.specs.Option.{option_map}
use Rattle.std.specs.Prelude.{IfSome}
use Rattle.std.proofs.lemmas.Int.{ints}
use Rattle.std.proofs.lemmas.List.{append_assoc, drop_all}
use Rattle.std.proofs.Math.Seq.{drop-cons}
use Rattle.rsp_multiset.specs.Rows.{Cells, row_eq}
use Rattle.rsp_multiset.specs.RowSame.{row_decides}
use Rattle.rsp_multiset.specs.Shown.{shown_row, weight_shown, IsKnown}
use Rattle.rsp_multiset.specs.Weights.{only, weight, times, AreChanges}
use Rattle.rsp_multiset.proofs.Shown.{weight_shown-altered}
use Rattle.rsp_terms.specs.declared.term.Term.{Term}
use Rattle.rsp_terms.specs.Same.{term_eq}
use Rattle.rsp_operators.specs.Laws.{Leads, AnswersFit, IsShownAlike}
use Rattle.rsp_simple_operators.proofs.Learning.{learnt-row, learnt-known, learnt-fits, learnt-shown}

module _ {V : Type 0} (knows1 knows2 : V → Type 0) (shown1 shown2 : V → Term) (next : (v : V) → knows1 v → IsShownAlike shown1 knows2 shown2 v) where
  shown_more : (cells : Cells V) (value : Option V) → shown_row shown2 (cells ++ value ∷ []) ≡ shown_row shown2 cells ++ option_map shown2 value ∷ []
  shown_more [] value = refl
  shown_more (c ∷ cells) value = ap (λ row. option_map shown2 c ∷ row) (shown_more cells value)

  known_more : (cells : Cells V) (value : Option V) → IsKnown knows2 cells → IfSome value knows2 → IsKnown knows2 (cells ++ value ∷ [])
  known_more [] value known here = (here, tt)
  known_more (c ∷ cells) value known here = (known.0, known_more cells value known.1 here)

  -- one cell more
  pub cell-kept : (cells items : Cells V) (value : Option V) (cell : Option Term) (rest after whole : Cells Term) → items ≡ cells ++ value ∷ [] → IsKnown knows1 cells → IfSome value knows2
      → shown_row shown1 cells ++ rest ≡ whole → rest ≡ cell ∷ after → option_map shown2 value ≡ cell
      → IsKnown knows2 items × (shown_row shown2 items ++ after ≡ whole)
  cell-kept cells items value cell rest after whole pushed known here so_far split is = (
    subst (IsKnown knows2) (sym pushed) (known_more cells value (learnt-known knows1 knows2 shown1 shown2 next cells known) here),
    ap (λ row. shown_row shown2 row ++ after) pushed
        ∙ (ap (λ row. row ++ after) (shown_more cells value)
        ∙ (append_assoc (shown_row shown2 cells) (option_map shown2 value ∷ []) after
        ∙ ((λ i. learnt-row knows1 knows2 shown1 shown2 next cells known i ++ is i ∷ after)
        ∙ (ap (λ more. shown_row shown1 cells ++ more) (sym split) ∙ so_far)))),
  )

  -- one row more
  module _ {eq : V → V → Bool} (same : (x y : V) → Decides (eq x y) (x ≡ y)) (width : ℕ) (net net' : List (Cells V × ℤ)) (kept : Cells V) (row : Cells Term) (n : ℤ) (one : n ≡ pos 1)
      (known : IsKnown knows2 kept) (is : shown_row shown2 kept ≡ row)
      (added : (q : Cells V) → weight (row_eq eq) net' q ≡ weight (row_eq eq) net q +ℤ only (row_eq eq q kept) n) (fits : AnswersFit eq width knows1 net) where
    shown-long : (row : Cells V) → length (shown_row shown2 row) ≡ length row
    shown-long [] = refl
    shown-long (c ∷ row) = ap suc (shown-long row)

    pub row-kept_fits : length row ≡ width → AnswersFit eq width knows2 net'
    row-kept_fits long other some = by (row_eq eq other kept) refl
      where
        by : (b : Bool) → row_eq eq other kept ≡ b → (length other ≡ width) × IsKnown knows2 other
        by true here =
            let other_is = (row_decides same other kept).0 here in
            (ap length other_is ∙ (sym (shown-long kept) ∙ (ap length is ∙ long)), subst (IsKnown knows2) (sym other_is) known)
        by false there =
            learnt-fits knows1 knows2 shown1 shown2 next eq width net fits other
            (λ none. some (added other ∙ (let gone = ap (λ b. only b n) there in omega (arith, ints, none, gone))))

    pub row-kept : AreChanges (row_eq eq) net → (q : Cells Term)
        → weight_shown (row_eq term_eq) (shown_row shown2) net' q ≡ weight_shown (row_eq term_eq) (shown_row shown1) net q +ℤ only (row_eq term_eq q row) (pos 1)
    row-kept changes q =
        let before = learnt-shown knows1 knows2 shown1 shown2 next same width net changes fits q in
        let altered = weight_shown-altered (row_decides same) (row_eq term_eq) (shown_row shown2) net' net kept n added q in
        let here : only (row_eq term_eq q (shown_row shown2 kept)) n ≡ only (row_eq term_eq q row) (pos 1) = (λ i. only (row_eq term_eq q (is i)) (one i)) in
        omega (arith, ints, before, altered, here)

-- along the rows
pub split-at : {X : Type 0} (xs : List X) (i : ℕ) (x : X) → i < length xs → x ≡ get_or xs i x → drop i xs ≡ x ∷ drop (i + 1) xs
split-at xs i x inside is =
    let next : suc i ≡ i + 1 = omega arith in
    drop-cons xs i x inside ∙ (ap (λ k. get_or xs i x ∷ drop k xs) next ∙ ap (λ y. y ∷ drop (i + 1) xs) (sym is))

pub have-at : {X : Type 0} (P : X → Type 0) (xs : List X) (i : ℕ) (x : X) → i < length xs → AllByRecursion P xs → P (get_or xs i x)
have-at P [] i x inside all = let never : ⊥ = omega (arith, inside) in absurd never
have-at P (y ∷ xs) zero x inside all = all.0
have-at P (y ∷ xs) (suc i) x inside all = have-at P xs i x (omega (arith, inside)) all.1

pub rows-next : (rest after : List (Cells Term)) (row : Cells Term) (q : Cells Term) (here next whole : ℤ) → rest ≡ row ∷ after → next ≡ here +ℤ only (row_eq term_eq q row) (pos 1)
    → here +ℤ times (row_eq term_eq) rest q ≡ whole → next +ℤ times (row_eq term_eq) after q ≡ whole
rows-next rest after row q here next whole split added so_far =
    let first = ap (λ (rows : List (Cells Term)). times (row_eq term_eq) rows q) split in
    omega (arith, ints, first, added, so_far)

pub rows-end : (rows : List (Cells Term)) (i : ℕ) (q : Cells Term) (here : ℤ) → length rows ≤ i → here +ℤ times (row_eq term_eq) (drop i rows) q ≡ times (row_eq term_eq) rows q
    → times (row_eq term_eq) rows q ≡ pos 0 +ℤ here
rows-end rows i q here past so_far =
    let none = ap (λ (rest : List (Cells Term)). times (row_eq term_eq) rest q) (drop_all i rows past) in
    omega (arith, ints, none, so_far)

-- no change
pub none-fits : {V : Type 0} (eq : V → V → Bool) (width : ℕ) (knows : V → Type 0) (net : List (Cells V × ℤ)) → net ≡ [] → AnswersFit eq width knows net
none-fits eq width knows net none = subst (AnswersFit eq width knows) (sym none) (λ row some. absurd (some refl))

pub none-leads : {V : Type 0} (shown : V → Term) (net : List (Cells V × ℤ)) (before after : List (Cells Term)) → net ≡ [] → before ≡ after → Leads shown before net after
none-leads {V} shown net before after none same =
    subst (λ (es : List (Cells V × ℤ)). Leads shown before es after) (sym none)
    (λ q. let alike = ap (λ (rows : List (Cells Term)). times (row_eq term_eq) rows q) same in (omega (arith, ints, alike)))
