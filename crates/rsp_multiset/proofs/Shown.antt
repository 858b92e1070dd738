-- What entries hold by what they show: a law over what is shown needs nothing of how it is shown. Only where values are compared, or
-- looked up, must known values be told apart.
use Rattle.std.proofs.Common.{◌≡◌, ℕ, Bool, true, false, ◌&&◌, ◌||◌, nat_eq, if◌then◌else◌, List, [], ◌∷◌, ◌++◌, ℤ, pos, ◌+ℤ◌, ◌*ℤ◌, neg_ℤ, Option, Some, None, is_some, length, map, refl, sym, ap, ◌∙◌, true≢false, arith, Decides}
use Rattle.std.specs.Cmp.{IsEquivalence}
use Rattle.std.specs.List.{AllByRecursion, IsDistinct, range_with_len}
use Rattle.std.specs.Map.{keys_of}
use Rattle.std.specs.Option.{option_map, unwrap_or}
use Rattle.std.proofs.lemmas.Int.{ints}
use Rattle.std.proofs.lemmas.Map.Entries.{none_past_head}
use Rattle.std.proofs.Math.IntN.{*ℤ-zero}
use Rattle.std.proofs.Math.ListN.{get_or-map}
use Rattle.rsp_multiset.specs.Rows.{Cells, row_eq, fits, compatible, shares, bound_in_either, merge}
use Rattle.rsp_multiset.specs.RowSame.{row_decides}
use Rattle.rsp_multiset.specs.Shown.{shown_row, IsKnown, AreToldApart, weight_shown, HoldsShown, IsChangedShown}
use Rattle.rsp_multiset.specs.Variables.{row_by, cell, among, extension, projection, cells_at}
use Rattle.rsp_multiset.specs.Weights.{sum_z, only, weight, total, times, negation}
use Rattle.rsp_multiset.proofs.Held.{weight-append, weight-none}
use Rattle.rsp_multiset.proofs.Linear.{total-append, total-negated, total-same, sum-changed, total-held}
use Rattle.rsp_multiset.proofs.Whole.{times-one}

pub times-only : (n : ℤ) (b : Bool) → n *ℤ only b (pos 1) ≡ only b n
times-only n true = times-one n
times-only n false = *ℤ-zero n

-- ---- entries by what they show

module _ {E F : Type 0} (shown : E → F) where
  abbrev pub shown_entries : List (E × ℤ) → List (F × ℤ)
  shown_entries es = map {B = F × ℤ} (λ e. (shown e.0, e.1)) es

  pub total-shown_entries : (f : F → ℤ) (es : List (E × ℤ)) → total f (shown_entries es) ≡ total (λ x. f (shown x)) es
  total-shown_entries f [] = refl
  total-shown_entries f (e ∷ es) = ap (λ s. e.1 *ℤ f (shown e.0) +ℤ s) (total-shown_entries f es)

  -- the shown entries hold what the entries hold by what they show
  pub weight-shown_entries : (eq : F → F → Bool) (es : List (E × ℤ)) (q : F) → weight eq (shown_entries es) q ≡ weight_shown eq shown es q
  weight-shown_entries eq [] q = refl
  weight-shown_entries eq (e ∷ es) q = (λ i. sym (times-only e.1 (eq q (shown e.0))) i +ℤ weight-shown_entries eq es q i)

  pub weight_shown-negated : (eq : F → F → Bool) (es : List (E × ℤ)) (q : F) → weight_shown eq shown (negation es) q ≡ neg_ℤ (weight_shown eq shown es q)
  weight_shown-negated eq es q = total-negated (λ x. only (eq q (shown x)) (pos 1)) es

module _ {E F : Type 0} {test : E → E → Bool} (same : (x y : E) → Decides (test x y) (x ≡ y)) (eq : F → F → Bool) (shown : E → F) where
  -- what is held by what is shown depends on what is held
  pub weight_shown-same : (es ds : List (E × ℤ)) → ((x : E) → weight test es x ≡ weight test ds x) → (q : F) → weight_shown eq shown es q ≡ weight_shown eq shown ds q
  weight_shown-same es ds alike q = total-same same (λ x. only (eq q (shown x)) (pos 1)) es ds alike

  pub weight_shown-joined : (fs es ds : List (E × ℤ)) → ((x : E) → weight test fs x ≡ weight test es x +ℤ weight test ds x) → (q : F) → weight_shown eq shown fs q ≡ weight_shown eq shown es q +ℤ weight_shown eq shown ds q
  weight_shown-joined fs es ds sum q =
      weight_shown-same fs (es ++ ds) (λ x. sum x ∙ sym (weight-joined x)) q ∙ total-append (λ x. only (eq q (shown x)) (pos 1)) es ds
    where
      weight-joined : (x : E) → weight test (es ++ ds) x ≡ weight test es x +ℤ weight test ds x
      weight-joined x = weight-append test es ds x

  pub weight_shown-altered : (ds es : List (E × ℤ)) (x : E) (n : ℤ) → ((y : E) → weight test ds y ≡ weight test es y +ℤ only (test y x) n) → (q : F) → weight_shown eq shown ds q ≡ weight_shown eq shown es q +ℤ only (eq q (shown x)) n
  weight_shown-altered ds es x n altered q =
      let sum = weight_shown-joined ds es ((x, n) ∷ []) (λ y. altered y ∙ (let w : weight test es y +ℤ only (test y x) n ≡ weight test es y +ℤ weight test ((x, n) ∷ []) y = omega (arith, ints) in w)) q in
      let one = times-only n (eq q (shown x)) in
      omega (arith, ints)

module _ {E F : Type 0} {eq : F → F → Bool} (same : (x y : F) → Decides (eq x y) (x ≡ y)) (shown : E → F) where
  -- sums over lists that change by what is shown, and over what entries hold by what they show
  pub sum-changed_shown : (f : F → ℤ) (before after : List F) (es : List (E × ℤ)) → IsChangedShown eq shown before es after → sum_z f after ≡ sum_z f before +ℤ total (λ x. f (shown x)) es
  sum-changed_shown f before after es changed =
      sum-changed same f before after (shown_entries shown es) (λ q. changed q ∙ ap (λ w. times eq before q +ℤ w) (sym (weight-shown_entries shown eq es q)))
      ∙ ap (λ s. sum_z f before +ℤ s) (total-shown_entries shown f es)

  pub total-held_shown : (f : F → ℤ) (es : List (E × ℤ)) (xs : List F) → HoldsShown eq shown es xs → total (λ x. f (shown x)) es ≡ sum_z f xs
  total-held_shown f es xs held =
      sym (total-shown_entries shown f es)
      ∙ total-held same f (shown_entries shown es) xs (λ q. weight-shown_entries shown eq es q ∙ held q)

-- ---- known values, told apart

abbrev pub AreKnown : {E : Type 0} → (E → Type 0) → List (E × ℤ) → Type 0
AreKnown {E} knows es = AllByRecursion (λ (e : E × ℤ). knows e.0) es

module _ {E F : Type 0} {test : E → E → Bool} (same : (x y : E) → Decides (test x y) (x ≡ y)) {eq : F → F → Bool} (same' : (x y : F) → Decides (eq x y) (x ≡ y))
    {knows : E → Type 0} {shown : E → F} (apart : AreToldApart knows shown) where
  pub tested-shown : (x y : E) → knows x → knows y → eq (shown x) (shown y) ≡ test x y
  tested-shown x y p q = by (eq (shown x) (shown y)) (test x y) refl refl
    where
      by : (b c : Bool) → eq (shown x) (shown y) ≡ b → test x y ≡ c → b ≡ c
      by true c h k = sym ((same x y).1 (apart x y p q ((same' (shown x) (shown y)).0 h))) ∙ k
      by false true h k = sym h ∙ (same' (shown x) (shown y)).1 (ap shown ((same x y).0 k))
      by false false h k = refl

  -- entries hold a known value as often as what it shows
  pub weight-told_apart : (es : List (E × ℤ)) (x : E) → AreKnown knows es → knows x → weight_shown eq shown es (shown x) ≡ weight test es x
  weight-told_apart [] x known p = refl
  weight-told_apart (e ∷ es) x known p =
      (λ i. (times-only e.1 (eq (shown x) (shown e.0)) ∙ ap (λ b. only b e.1) (tested-shown x e.0 p known.0)) i +ℤ weight-told_apart es x known.1 p i)

module _ {E F : Type 0} {test : E → E → Bool} (laws : IsEquivalence test) (same : (x y : E) → Decides (test x y) (x ≡ y)) {eq : F → F → Bool} (same' : (x y : F) → Decides (eq x y) (x ≡ y))
    {knows : E → Type 0} {shown : E → F} (apart : AreToldApart knows shown) where
  -- distinct entries with a number made of what is shown and the count, where the count 0 makes 0
  pub weight_shown-made : (f : F → ℤ → ℤ) → ((q : F) → f q (pos 0) ≡ pos 0) → (es : List (E × ℤ)) → IsDistinct test (keys_of es) → AreKnown knows es
      → (q : F) → weight_shown eq shown (map {B = E × ℤ} (λ e. (e.0, f (shown e.0) e.1)) es) q ≡ f q (weight_shown eq shown es q)
  unfolding IsDistinct
  weight_shown-made f none [] d known q = sym (none q)
  weight_shown-made f none (e ∷ es) d known q =
      by (eq q (shown e.0)) refl (weight_shown-made f none es d.1 known.1 q)
      (weight-told_apart same same' {knows = knows} apart es e.0 known.1 known.0 ∙ weight-none test e.0 es (none_past_head laws e.0 e es d ((same e.0 e.0).1 refl)))
    where
      made : List (E × ℤ)
      made = map {B = E × ℤ} (λ e. (e.0, f (shown e.0) e.1)) es

      by : (b : Bool) → eq q (shown e.0) ≡ b → weight_shown eq shown made q ≡ f q (weight_shown eq shown es q) → weight_shown eq shown es (shown e.0) ≡ pos 0
          → f (shown e.0) e.1 *ℤ only b (pos 1) +ℤ weight_shown eq shown made q ≡ f q (e.1 *ℤ only b (pos 1) +ℤ weight_shown eq shown es q)
      by true is rest others =
          let w = ap (weight_shown eq shown es) ((same' q (shown e.0)).0 is) ∙ others in
          let r = rest ∙ ap (f q) w ∙ none q in
          let t = times-only e.1 true in
          let u = times-only (f (shown e.0) e.1) true in
          let k : e.1 *ℤ only true (pos 1) +ℤ weight_shown eq shown es q ≡ e.1 = omega (arith, ints, t, w) in
          let s : f (shown e.0) e.1 *ℤ only true (pos 1) +ℤ weight_shown eq shown made q ≡ f (shown e.0) e.1 = omega (arith, ints, u, r) in
          s ∙ ap (λ z. f z e.1) (sym ((same' q (shown e.0)).0 is)) ∙ ap (f q) (sym k)
      by false is rest others =
          let t = times-only e.1 false in
          let u = times-only (f (shown e.0) e.1) false in
          let k : e.1 *ℤ only false (pos 1) +ℤ weight_shown eq shown es q ≡ weight_shown eq shown es q = omega (arith, ints, t) in
          let s : f (shown e.0) e.1 *ℤ only false (pos 1) +ℤ weight_shown eq shown made q ≡ weight_shown eq shown made q = omega (arith, ints, u) in
          s ∙ rest ∙ ap (f q) (sym k)

-- ---- rows, shown cell by cell

heads : {X : Type 0} (x y : X) (a b : List X) → x ∷ a ≡ y ∷ b → x ≡ y
heads x y a b h = cc

tails : {X : Type 0} (x y : X) (a b : List X) → x ∷ a ≡ y ∷ b → a ≡ b
tails x y a b h = cc

module _ {V W : Type 0} {knows : V → Type 0} {shown : V → W} (apart : AreToldApart knows shown) where
  values_apart : (x y : Option V) → IsKnown knows (x ∷ []) → IsKnown knows (y ∷ []) → option_map shown x ≡ option_map shown y → x ≡ y
  values_apart None None p q h = refl
  values_apart None (Some y) p q h = absurd (true≢false (sym (ap is_some h)))
  values_apart (Some x) None p q h = absurd (true≢false (ap is_some h))
  values_apart (Some x) (Some y) p q h = ap Some (apart x y p.0 q.0 (ap (λ o. unwrap_or o (shown x)) h))

  pub rows-told_apart : AreToldApart (IsKnown knows) (shown_row shown)
  rows-told_apart [] [] p q h = refl
  rows-told_apart [] (y ∷ b) p q h = let e = ap length h in let never : ⊥ = omega (arith, e) in absurd never
  rows-told_apart (x ∷ a) [] p q h = let e = ap length h in let never : ⊥ = omega (arith, e) in absurd never
  rows-told_apart (x ∷ a) (y ∷ b) p q h =
      let first = values_apart x y (p.0, tt) (q.0, tt) (heads (option_map shown x) (option_map shown y) (shown_row shown a) (shown_row shown b) h) in
      let others = rows-told_apart a b p.1 q.1 (tails (option_map shown x) (option_map shown y) (shown_row shown a) (shown_row shown b) h) in
      λ i. first i ∷ others i

module _ {V W : Type 0} (shown : V → W) where
  both_bound : (x y : Option V) → (is_some (option_map shown x) && is_some (option_map shown y)) ≡ (is_some x && is_some y)
  both_bound None y = refl
  both_bound (Some x) None = refl
  both_bound (Some x) (Some y) = refl

  pub shares-shown : (a b : Cells V) → shares (shown_row shown a) (shown_row shown b) ≡ shares a b
  shares-shown [] b = refl
  shares-shown (x ∷ a) [] = refl
  shares-shown (x ∷ a) (y ∷ b) = (λ i. both_bound x y i || shares-shown a b i)

  either_shown : (x y : Option V) → bound_in_either (option_map shown x) (option_map shown y) ≡ option_map shown (bound_in_either x y)
  either_shown None y = refl
  either_shown (Some x) y = refl

  pub merge-shown : (a b : Cells V) → merge (shown_row shown a) (shown_row shown b) ≡ shown_row shown (merge a b)
  merge-shown [] b = refl
  merge-shown (x ∷ a) [] = refl
  merge-shown (x ∷ a) (y ∷ b) = (λ i. either_shown x y i ∷ merge-shown a b i)

  pub cell-shown : (a : Cells V) (v : ℕ) → cell (shown_row shown a) v ≡ option_map shown (cell a v)
  cell-shown a v = get_or-map (option_map shown) a v None

  pub cells_at-shown : (variables : List ℕ) (a : Cells V) → cells_at variables (shown_row shown a) ≡ shown_row shown (cells_at variables a)
  cells_at-shown [] a = refl
  cells_at-shown (v ∷ variables) a = (λ i. cell-shown a v i ∷ cells_at-shown variables a i)

  pub row_by-shown : (width : ℕ) (f : ℕ → Option W) (g : ℕ → Option V) → ((v : ℕ) → f v ≡ option_map shown (g v)) → row_by width f ≡ shown_row shown (row_by width g)
  row_by-shown width f g alike = over (range_with_len 0 width)
    where
      over : (vs : List ℕ) → map f vs ≡ map (option_map shown) (map g vs)
      over [] = refl
      over (v ∷ vs) = (λ i. alike v i ∷ over vs i)

  projected_alike : (keeps : Bool) (o : Option V) (shows : Option W) → shows ≡ option_map shown o → (if keeps then shows else None) ≡ option_map shown (if keeps then o else None)
  projected_alike true o shows is = is
  projected_alike false o shows is = refl

  pub projection-shown : (width : ℕ) (variables : List ℕ) (a : Cells V) → projection width variables (shown_row shown a) ≡ shown_row shown (projection width variables a)
  projection-shown width variables a = row_by-shown width _ _ (λ v. projected_alike (among variables v) (cell a v) (cell (shown_row shown a) v) (cell-shown a v))

  extended_alike : (here : Bool) (value o : Option V) (shows : Option W) → shows ≡ option_map shown o → (if here then option_map shown value else shows) ≡ option_map shown (if here then value else o)
  extended_alike true value o shows is = refl
  extended_alike false value o shows is = is

  pub extension-shown : (width variable : ℕ) (value : Option V) (a : Cells V) → extension width variable (option_map shown value) (shown_row shown a) ≡ shown_row shown (extension width variable value a)
  extension-shown width variable value a = row_by-shown width _ _ (λ v. extended_alike (nat_eq v variable) value (cell a v) (cell (shown_row shown a) v) (cell-shown a v))

-- known rows are compared alike by what they show
module _ {V W : Type 0} {test : V → V → Bool} (same : (x y : V) → Decides (test x y) (x ≡ y)) {eq : W → W → Bool} (same' : (x y : W) → Decides (eq x y) (x ≡ y))
    {knows : V → Type 0} {shown : V → W} (apart : AreToldApart knows shown) where
  fits_shown : (x y : Option V) → IsKnown knows (x ∷ []) → IsKnown knows (y ∷ []) → fits eq (option_map shown x) (option_map shown y) ≡ fits test x y
  fits_shown None y p q = refl
  fits_shown (Some x) None p q = refl
  fits_shown (Some x) (Some y) p q = tested-shown same same' {knows = knows} apart x y p.0 q.0

  pub compatible-shown : (a b : Cells V) → IsKnown knows a → IsKnown knows b → compatible eq (shown_row shown a) (shown_row shown b) ≡ compatible test a b
  compatible-shown [] b p q = refl
  compatible-shown (x ∷ a) [] p q = refl
  compatible-shown (x ∷ a) (y ∷ b) p q = (λ i. fits_shown x y (p.0, tt) (q.0, tt) i && compatible-shown a b p.1 q.1 i)

  pub row_eq-shown : (a b : Cells V) → IsKnown knows a → IsKnown knows b → row_eq eq (shown_row shown a) (shown_row shown b) ≡ row_eq test a b
  row_eq-shown a b p q = tested-shown (row_decides same) (row_decides same') {knows = IsKnown knows} (rows-told_apart apart) a b p q

  -- entries of known rows hold a known row as often as what it shows
  pub weight-known : (es : List (Cells V × ℤ)) (a : Cells V) → AreKnown (IsKnown knows) es → IsKnown knows a → weight_shown (row_eq eq) (shown_row shown) es (shown_row shown a) ≡ weight (row_eq test) es a
  weight-known es a known p = weight-told_apart (row_decides same) (row_decides same') {knows = IsKnown knows} (rows-told_apart apart) es a known p
