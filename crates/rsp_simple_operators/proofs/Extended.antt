-- Rows with a computed value, while the domain learns values.
use Rattle.std.proofs.Common.{◌≡◌, ◌≢◌, ◌≤◌, ℕ, Bool, true, false, Option, None, Some, if◌then◌else◌, nat_eq, List, [], ◌∷◌, ℤ, pos, ◌+ℤ◌, length, map, drop, refl, sym, ap, subst, ◌∙◌, arith, Decides}
use Rattle.std.specs.Cmp.{decided}
use Rattle.std.specs.List.{AllByRecursion}
use Rattle.std.specs.Map.{keys_of}
use Rattle.std.specs.Option.{option_map}
use Rattle.std.specs.Prelude.{IfSome}
use Rattle.std.proofs.lemmas.Int.{ints}
use Rattle.std.proofs.lemmas.List.{drop_all}
use Rattle.std.proofs.lemmas.List.Elements.{recursion_from_All}
use Rattle.rsp_multiset.specs.Rows.{Cells, row_eq}
use Rattle.rsp_multiset.specs.RowSame.{row_decides}
use Rattle.rsp_multiset.specs.Shown.{shown_row, weight_shown, IsKnown}
use Rattle.rsp_multiset.specs.Variables.{cell, extension}
use Rattle.rsp_multiset.specs.Weights.{only, weight, total, AreChanges}
use Rattle.rsp_multiset.proofs.Shown.{times-only, extension-shown, weight_shown-altered, sum-changed_shown}
use Rattle.rsp_multiset.proofs.Sums.{sum_z-map}
use Rattle.rsp_terms.specs.declared.term.Term.{Term}
use Rattle.rsp_terms.specs.Same.{term_eq, term_same}
use Rattle.rsp_operators.specs.Laws.{Leads, AnswersFit, IsShownAlike}
use Rattle.rsp_simple_operators.specs.Carried.{row_alike, weight-alike}
use Rattle.rsp_simple_operators.proofs.Crossed.{entries-have}
use Rattle.rsp_simple_operators.proofs.Mapped.{known-cell, known-row_by, row_by-long}

pub known-weaker : {V : Type 0} {P Q : V → Type 0} → ((v : V) → P v → Q v) → (row : Cells V) → IsKnown P row → IsKnown Q row
known-weaker f [] known = tt
known-weaker f (None ∷ row) known = (tt, known-weaker f row known.1)
known-weaker f (Some v ∷ row) known = (f v known.0, known-weaker f row known.1)

pub keys-have : {E : Type 0} (P : E → Type 0) (es : List (E × ℤ)) → AllByRecursion (λ (e : E × ℤ). P e.0) es → AllByRecursion P (keys_of es)
keys-have P [] have = tt
keys-have P (e ∷ es) have = (have.0, keys-have P es have.1)

-- the row of terms with its computed value
abbrev pub valued : ℕ → ℕ → (Cells Term → Option Term) → Cells Term → Cells Term
valued width variable of row = extension width variable (of row) row

module _ {V : Type 0} {eq : V → V → Bool} (same : (x y : V) → Decides (eq x y) (x ≡ y)) (width variable : ℕ) (of : Cells Term → Option Term)
    (knows0 knows1 knows2 : V → Type 0) (shown0 shown1 shown2 : V → Term)
    (first : (v : V) → knows0 v → IsShownAlike shown0 knows1 shown1 v) (next : (v : V) → knows1 v → IsShownAlike shown1 knows2 shown2 v) where
  pub alike-twice : (v : V) → knows0 v → IsShownAlike shown0 knows2 shown2 v
  alike-twice v known = ((next v (first v known).0).0, (next v (first v known).0).1 ∙ (first v known).1)

  either_known : (here : Bool) (value other : Option V) → IfSome value knows2 → IfSome other knows2 → IfSome (if here then value else other) knows2
  either_known true value other known known' = known
  either_known false value other known known' = known'

  module _ (net net' here rest : List (Cells V × ℤ)) (x new : Cells V) (value : Option V) (n : ℤ) (split : here ≡ (x, n) ∷ rest) (is : new ≡ extension width variable value x)
      (computed : option_map shown2 value ≡ of (shown_row shown1 x)) (value_known : IfSome value knows2)
      (added : (row : Cells V) → weight (row_eq eq) net' row ≡ weight (row_eq eq) net row +ℤ only (row_eq eq row new) n)
      (known : IsKnown knows0 x) (changes : AreChanges (row_eq eq) net) (fits : AnswersFit eq width knows1 net) where
    new_fits : (length new ≡ width) × IsKnown knows2 new
    new_fits = (
      ap length is ∙ row_by-long width _,
      subst (IsKnown knows2) (sym is) (known-row_by knows2 width _ (λ v. either_known (nat_eq v variable) value (cell x v) value_known (known-cell knows2 x v (known-weaker (λ v known. (alike-twice v known).0) x known)))),
    )

    pub extended-fits : AnswersFit eq width knows2 net'
    extended-fits row some = by (row_eq eq row new) refl
      where
        by : (b : Bool) → row_eq eq row new ≡ b → (length row ≡ width) × IsKnown knows2 row
        by true here = let row_is = (row_decides same row new).0 here in (ap length row_is ∙ new_fits.0, subst (IsKnown knows2) (sym row_is) new_fits.1)
        by false there =
            let before = fits row (λ none. some (added row ∙ (let gone = ap (λ b. only b n) there in omega (arith, ints, none, gone)))) in
            (before.0, known-weaker (λ v known. (next v known).0) row before.1)

    new_shown : shown_row shown2 new ≡ valued width variable of (shown_row shown0 x)
    new_shown =
        let rows = row_alike shown0 knows2 shown2 x (known-weaker alike-twice x known) in
        let value_is = computed ∙ ap of (row_alike shown0 knows1 shown1 x (known-weaker first x known)) in
        ap (shown_row shown2) is ∙ (sym (extension-shown shown2 width variable value x) ∙ (λ i. extension width variable (value_is i) (rows i)))

    pub extended-next : (q : Cells Term) (whole : ℤ)
        → weight_shown (row_eq term_eq) (shown_row shown1) net q +ℤ total (λ row. only (row_eq term_eq q (valued width variable of (shown_row shown0 row))) (pos 1)) here ≡ whole
        → weight_shown (row_eq term_eq) (shown_row shown2) net' q +ℤ total (λ row. only (row_eq term_eq q (valued width variable of (shown_row shown0 row))) (pos 1)) rest ≡ whole
    extended-next q whole so_far =
        let counted = λ (row : Cells V). only (row_eq term_eq q (valued width variable of (shown_row shown0 row))) (pos 1) in
        let keys = keys-have (IsKnown (IsShownAlike shown1 knows2 shown2)) net
        (entries-have (decided (row_eq eq) (row_decides same)) (IsKnown (IsShownAlike shown1 knows2 shown2)) net changes.distinct (recursion_from_All (λ (e : Cells V × ℤ). e.1 ≢ pos 0) net changes.counted)
        (λ row some. known-weaker next row (fits row some).1)) in
        let moved = weight-alike shown1 knows2 shown2 net keys q in
        let altered = weight_shown-altered (row_decides same) (row_eq term_eq) (shown_row shown2) net' net new n added q in
        let one = ap (λ row. only (row_eq term_eq q row) n) new_shown in
        let once = times-only n (row_eq term_eq q (valued width variable of (shown_row shown0 x))) in
        let parts = ap (total counted) split in
        omega (arith, ints, so_far, moved, altered, one, once, parts)

pub extended-end : {V : Type 0} (counted : Cells V → ℤ) (change : List (Cells V × ℤ)) (i : ℕ) (w whole : ℤ) → length change ≤ i → w +ℤ total counted (drop i change) ≡ whole → w ≡ whole
extended-end counted change i w whole past so_far = let none = ap (total counted) (drop_all i change past) in omega (arith, ints, none, so_far)

pub extended-leads : {V : Type 0} (width variable : ℕ) (of : Cells Term → Option Term) (shown0 shown : V → Term) (before after : List (Cells Term)) (change net : List (Cells V × ℤ))
    → ((q : Cells Term) → weight_shown (row_eq term_eq) (shown_row shown) net q ≡ total (λ row. only (row_eq term_eq q (valued width variable of (shown_row shown0 row))) (pos 1)) change)
    → Leads shown0 before change after → Leads shown (map (valued width variable of) before) net (map (valued width variable of) after)
extended-leads width variable of shown0 shown before after change net made leads q =
    let counted = λ (row : Cells Term). only (row_eq term_eq q row) (pos 1) in
    let step = sum-changed_shown (row_decides term_same) (shown_row shown0) (λ row. counted (valued width variable of row)) before after change leads in
    let first = sum_z-map counted (valued width variable of) before in
    let last = sum_z-map counted (valued width variable of) after in
    let whole = made q in
    omega (arith, ints, whole, step, first, last)
