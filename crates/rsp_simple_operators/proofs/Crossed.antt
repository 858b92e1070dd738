-- Distinct rows, as they come and go along a change.
use Rattle.std.proofs.Common.{◌≡◌, ◌≢◌, ◌≤◌, ℕ, zero, suc, Bool, true, false, List, [], ◌∷◌, ℤ, pos, negsuc, ◌+ℤ◌, length, drop, refl, sym, ap, subst, ◌∙◌, arith, Decides}
use Rattle.std.specs.Cmp.{IsEquivalence, decided}
use Rattle.std.specs.List.{IsDistinct, AllByRecursion}
use Rattle.std.specs.Map.{keys_of}
use Rattle.std.specs.Prelude.{Result, Ok, Err, OnOk, IfOk}
use Rattle.std.proofs.lemmas.Int.{ints}
use Rattle.std.proofs.lemmas.List.{drop_all}
use Rattle.std.proofs.lemmas.List.Elements.{recursion_from_All}
use Rattle.std.proofs.lemmas.Map.Entries.{none_past_head}
use Rattle.rsp_multiset.specs.RowLists.{each_once}
use Rattle.rsp_multiset.specs.Rows.{Cells, row_eq}
use Rattle.rsp_multiset.specs.RowSame.{row_decides}
use Rattle.rsp_multiset.specs.Shown.{shown_row, IsKnown, AreToldApart}
use Rattle.rsp_multiset.specs.Weights.{only, weight, times, AreChanges}
use Rattle.rsp_multiset.proofs.Distincts.{presence, crossing, crossings, crossing-nothing, weight-made, once-changed_shown}
use Rattle.rsp_multiset.proofs.Held.{weight-none}
use Rattle.rsp_multiset.proofs.Shown.{AreKnown, rows-told_apart, weight-known, weight_shown-same, weight_shown-joined}
use Rattle.rsp_terms.specs.declared.term.Term.{Term}
use Rattle.rsp_terms.specs.Same.{term_eq, term_same}
use Rattle.rsp_operators.specs.Laws.{Leads, ChangesFit}
use Rattle.rsp_simple_operators.specs.Carried.{StandsFor}
use Rattle.rsp_simple_operators.proofs.Fitting.{change-fits, known_of}

pub if_both : {T E : Type 0} (result : Result T E) (P : Type 0) (Q R : T → Type 0) → OnOk result P → IfOk result Q → ((x : T) → P → Q x → R x) → IfOk result R
if_both (Ok x) P Q R p q f = f x p q
if_both (Err why) P Q R p q f = tt

pub crossing-twice : (a b c : ℤ) → crossing a (b +ℤ c) ≡ crossing a b +ℤ crossing (a +ℤ b) c
crossing-twice a b c =
    let whole : a +ℤ (b +ℤ c) ≡ (a +ℤ b) +ℤ c = omega (arith, ints) in
    let alike = ap presence whole in
    omega (arith, ints, alike)

module _ {E : Type 0} {eq : E → E → Bool} (same : (x y : E) → Decides (eq x y) (x ≡ y)) where
  crossed_here : (kept : List (E × ℤ)) (x q : E) (n : ℤ) → only (eq q x) (crossing (weight eq kept x) n) ≡ crossing (weight eq kept q) (only (eq q x) n)
  crossed_here kept x q n = by (eq q x) refl
    where
      by : (b : Bool) → eq q x ≡ b → only b (crossing (weight eq kept x) n) ≡ crossing (weight eq kept q) (only b n)
      by true is = ap (λ z. crossing (weight eq kept z) n) (sym ((same q x).0 is))
      by false is = sym (crossing-nothing (weight eq kept q))

  pub kept-next : (kept kept' here rest : List (E × ℤ)) (x : E) (n whole : ℤ) (q : E) → here ≡ (x, n) ∷ rest → weight eq kept' q ≡ weight eq kept q +ℤ only (eq q x) n
      → weight eq kept q +ℤ weight eq here q ≡ whole → weight eq kept' q +ℤ weight eq rest q ≡ whole
  kept-next kept kept' here rest x n whole q split step so_far = let first = ap (λ es. weight eq es q) split in omega (arith, ints, first, step, so_far)

  pub net-next : (kept kept' net net' here rest : List (E × ℤ)) (x : E) (n whole : ℤ) (q : E) → here ≡ (x, n) ∷ rest → weight eq kept' q ≡ weight eq kept q +ℤ only (eq q x) n
      → weight eq net' q ≡ weight eq net q +ℤ only (eq q x) (crossing (weight eq kept x) n)
      → weight eq net q +ℤ crossing (weight eq kept q) (weight eq here q) ≡ whole → weight eq net' q +ℤ crossing (weight eq kept' q) (weight eq rest q) ≡ whole
  net-next kept kept' net net' here rest x n whole q split step made so_far =
      let first = ap (λ es. crossing (weight eq kept q) (weight eq es q)) split ∙ crossing-twice (weight eq kept q) (only (eq q x) n) (weight eq rest q) in
      let one = crossed_here kept x q n in
      let after = ap (λ w. crossing w (weight eq rest q)) step in
      omega (arith, ints, first, one, after, made, so_far)

  pub kept-end : (kept change : List (E × ℤ)) (i : ℕ) (whole : ℤ) (q : E) → length change ≤ i → weight eq kept q +ℤ weight eq (drop i change) q ≡ whole → weight eq kept q ≡ whole
  kept-end kept change i whole q past so_far = let none = ap (λ es. weight eq es q) (drop_all i change past) in omega (arith, ints, none, so_far)

  pub net-end : (kept net change : List (E × ℤ)) (i : ℕ) (whole : ℤ) (q : E) → length change ≤ i → weight eq net q +ℤ crossing (weight eq kept q) (weight eq (drop i change) q) ≡ whole → weight eq net q ≡ whole
  net-end kept net change i whole q past so_far =
      let none = ap (λ es. crossing (weight eq kept q) (weight eq es q)) (drop_all i change past) ∙ crossing-nothing (weight eq kept q) in
      omega (arith, ints, none, so_far)

module _ {V : Type 0} {eq : V → V → Bool} (same : (x y : V) → Decides (eq x y) (x ≡ y)) (knows : V → Type 0) where
  pub kept-known : (es : List (Cells V × ℤ)) → AreKnown (IsKnown knows) es → (row : Cells V) → weight (row_eq eq) es row ≢ pos 0 → IsKnown knows row
  kept-known [] known row some = absurd (some refl)
  kept-known (e ∷ es) known row some = by (row_eq eq row e.0) refl some (kept-known es known.1 row)
    where
      by : (b : Bool) → row_eq eq row e.0 ≡ b → only b e.1 +ℤ weight (row_eq eq) es row ≢ pos 0 → (weight (row_eq eq) es row ≢ pos 0 → IsKnown knows row) → IsKnown knows row
      by true is some rest = subst (IsKnown knows) (sym ((row_decides same row e.0).0 is)) known.0
      by false is some rest = rest (λ none. some (omega (arith, ints, none)))

-- each entry has what each value has that weighs anything
module _ {E : Type 0} {eq : E → E → Bool} (laws : IsEquivalence eq) (P : E → Type 0) where
  pub entries-have : (es : List (E × ℤ)) → IsDistinct eq (keys_of es) → AllByRecursion (λ (e : E × ℤ). e.1 ≢ pos 0) es → ((x : E) → weight eq es x ≢ pos 0 → P x) → AllByRecursion (λ (e : E × ℤ). P e.0) es
  unfolding IsDistinct
  entries-have [] d counted have = tt
  entries-have (e ∷ es) d counted have =
      (have e.0 (λ none. counted.0 (first none)), entries-have es d.1 counted.1 (λ x some. have x (later x some (eq x e.0) refl)))
    where
      first : only (eq e.0 e.0) e.1 +ℤ weight eq es e.0 ≡ pos 0 → e.1 ≡ pos 0
      first none =
          let own = ap (λ b. only b e.1) (laws.refl e.0) in
          let others = weight-none eq e.0 es (none_past_head laws e.0 e es d (laws.refl e.0)) in
          omega (arith, ints, own, others, none)

      later : (x : E) → weight eq es x ≢ pos 0 → (b : Bool) → eq x e.0 ≡ b → only (eq x e.0) e.1 +ℤ weight eq es x ≢ pos 0
      later x some true is none = some (weight-none eq x es (none_past_head laws x e es d is))
      later x some false is none = some (let own = ap (λ b. only b e.1) is in omega (arith, ints, own, none))

module _ {V : Type 0} {eq : V → V → Bool} (same : (x y : V) → Decides (eq x y) (x ≡ y)) {knows : V → Type 0} {shown : V → Term} (apart : AreToldApart knows shown)
    (kept kept' change net : List (Cells V × ℤ)) (changes : AreChanges (row_eq eq) change) (changes' : AreChanges (row_eq eq) kept')
    (sum : (row : Cells V) → weight (row_eq eq) kept' row ≡ weight (row_eq eq) kept row +ℤ weight (row_eq eq) change row)
    (made : (row : Cells V) → weight (row_eq eq) net row ≡ crossing (weight (row_eq eq) kept row) (weight (row_eq eq) change row)) where
  laws : IsEquivalence (row_eq eq)
  laws = decided (row_eq eq) (row_decides same)

  laws' : IsEquivalence (row_eq term_eq)
  laws' = decided (row_eq term_eq) (row_decides term_same)

  pub nothing-crosses : (row : Cells V) → weight (row_eq eq) change row ≡ pos 0 → weight (row_eq eq) net row ≡ pos 0
  nothing-crosses row none = made row ∙ ap (crossing (weight (row_eq eq) kept row)) none ∙ crossing-nothing (weight (row_eq eq) kept row)

  pub kept-stands : (width : ℕ) (before after : List (Cells Term)) → ChangesFit width [] knows change → StandsFor knows shown kept before → Leads shown before change after → StandsFor knows shown kept' after
  kept-stands width before after fit stands leads = (
    (λ q. let joined = weight_shown-joined (row_decides same) (row_eq term_eq) (shown_row shown) kept' kept change sum q in let old = stands.0 q in let step = leads q in omega (arith, ints, joined, old, step)),
    entries-have laws (IsKnown knows) kept' changes'.distinct (recursion_from_All (λ (e : Cells V × ℤ). e.1 ≢ pos 0) kept' changes'.counted) known,
  )
    where
      known : (row : Cells V) → weight (row_eq eq) kept' row ≢ pos 0 → IsKnown knows row
      known row some = by (weight (row_eq eq) change row) refl
        where
          of_kept : weight (row_eq eq) change row ≡ pos 0 → IsKnown knows row
          of_kept none = kept-known same knows kept stands.1 row (λ gone. some (let whole = sum row in omega (arith, ints, whole, none, gone)))

          by : (n : ℤ) → weight (row_eq eq) change row ≡ n → IsKnown knows row
          by (pos zero) is = of_kept is
          by (pos (suc n)) is = (change-fits same width [] knows change fit row (λ none. let never : ⊥ = omega (arith, ints, is, none) in never)).1
          by (negsuc n) is = (change-fits same width [] knows change fit row (λ none. let never : ⊥ = omega (arith, ints, is, none) in never)).1

  pub net-leads : (width : ℕ) (before after : List (Cells Term)) → ChangesFit width [] knows change → StandsFor knows shown kept before → Leads shown before change after → Leads shown (each_once (row_eq term_eq) before) net (each_once (row_eq term_eq) after)
  net-leads width before after fit stands leads q =
      let count = λ (row : Cells V). times (row_eq term_eq) before (shown_row shown row) in
      let alike = weight_shown-same (row_decides same) (row_eq term_eq) (shown_row shown) net (crossings count change) (λ row. made row ∙ (crossed_alike row ∙ sym (weight-made laws (row_decides same) (λ x n. crossing (count x) n) (λ x. crossing-nothing (count x)) change changes.distinct row))) q in
      let step = once-changed_shown laws (row_decides same) laws' (row_decides term_same) {knows = IsKnown knows} (rows-told_apart apart) before after change changes.distinct (known_of width [] knows change fit) leads q in
      omega (arith, ints, alike, step)
    where
      crossed_alike : (row : Cells V) → crossing (weight (row_eq eq) kept row) (weight (row_eq eq) change row) ≡ crossing (times (row_eq term_eq) before (shown_row shown row)) (weight (row_eq eq) change row)
      crossed_alike row = by (weight (row_eq eq) change row) refl
        where
          held : weight (row_eq eq) change row ≢ pos 0 → weight (row_eq eq) kept row ≡ times (row_eq term_eq) before (shown_row shown row)
          held some = sym (weight-known same term_same {knows = knows} apart kept row stands.1 (change-fits same width [] knows change fit row some).1) ∙ stands.0 (shown_row shown row)

          by : (n : ℤ) → weight (row_eq eq) change row ≡ n → crossing (weight (row_eq eq) kept row) n ≡ crossing (times (row_eq term_eq) before (shown_row shown row)) n
          by (pos zero) is = crossing-nothing (weight (row_eq eq) kept row) ∙ sym (crossing-nothing (times (row_eq term_eq) before (shown_row shown row)))
          by (pos (suc n)) is = ap (λ w. crossing w (pos (suc n))) (held (λ none. let never : ⊥ = omega (arith, ints, is, none) in never))
          by (negsuc n) is = ap (λ w. crossing w (negsuc n)) (held (λ none. let never : ⊥ = omega (arith, ints, is, none) in never))
