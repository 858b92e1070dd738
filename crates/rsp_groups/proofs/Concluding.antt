-- The rows of the groups that a change touches, before and after, make the change of all groups' rows.
use Rattle.std.proofs.Common.{◌≡◌, ◌≢◌, ℕ, Bool, true, false, ◌||◌, true≢false, List, [], ◌∷◌, ◌++◌, ℤ, pos, ◌+ℤ◌, neg_ℤ, length, map, filter, refl, sym, ap, subst, ◌∙◌, arith, Decides}
use Rattle.std.specs.Prelude.{Option, nat_lt}
use Rattle.std.specs.Option.{option_eq}
use Rattle.std.specs.Cmp.{IsEquivalence, decided}
use Rattle.std.specs.List.{AllByRecursion, IsDistinct, list_any}
use Rattle.std.specs.Map.{keys_of}
use Rattle.std.proofs.lemmas.Int.{ints}
use Rattle.std.proofs.lemmas.List.Elements.{recursion_from_All}
use Rattle.std.proofs.lemmas.Map.Entries.{none_past_head}
use Rattle.rsp_expr.specs.Groups.{group_keys, group_of, with_values}
use Rattle.rsp_groups.specs.Answers.{is_group, group_row, rows_over, with_cells, MayTouch}
use Rattle.rsp_groups.specs.Carrying.{known_weaker, row_alike, row_known}
use Rattle.rsp_groups.proofs.Answering.{IsOnce, rows-changed, groups-once, group-of_keyed, some-rows, distinct-once, distinct-shown, results-valued, cells-valued, values-alike}
use Rattle.rsp_groups.proofs.Turning.{known-projection, row_by-long}
use Rattle.rsp_multiset.specs.Rows.{Cells, row_eq}
use Rattle.rsp_multiset.specs.RowSame.{row_decides}
use Rattle.rsp_multiset.specs.Shown.{shown_row, IsKnown, AreToldApart, weight_shown}
use Rattle.rsp_multiset.specs.Variables.{projection}
use Rattle.rsp_multiset.specs.Weights.{only, sum_z, weight, times, negation, AreChanges, IsSameMultiset}
use Rattle.rsp_multiset.proofs.Changing.{times-present}
use Rattle.rsp_multiset.proofs.Held.{weight-append, weight-negated, weight-none}
use Rattle.rsp_multiset.proofs.Linear.{entries_of, weight-entries_of, total-append, total-entries_of, length-same}
use Rattle.rsp_multiset.proofs.SameLists.{same-map}
use Rattle.rsp_multiset.proofs.Shown.{times-only, projection-shown, weight_shown-same, weight_shown-negated}
use Rattle.rsp_multiset.proofs.Sums.{sum_z-map, sum_z-filter}
use Rattle.rsp_terms.specs.declared.term.Term.{Term}
use Rattle.rsp_terms.specs.Same.{term_eq, term_same}
use Rattle.rsp_operators.specs.Laws.{Leads, IsShownAlike}

abbrev same_row : Cells Term → Cells Term → Bool
same_row = row_eq term_eq

decides : (a b : Cells Term) → Decides (same_row a b) (a ≡ b)
decides = row_decides term_same

-- ---- entries and lists

module _ {E : Type 0} {eq : E → E → Bool} (laws : IsEquivalence eq) (P : E → Type 0) where
  entries-have : (es : List (E × ℤ)) → IsDistinct eq (keys_of es) → AllByRecursion (λ (e : E × ℤ). e.1 ≢ pos 0) es → ((x : E) → weight eq es x ≢ pos 0 → P x) → AllByRecursion P (keys_of es)
  unfolding IsDistinct
  entries-have [] d counted have = tt
  entries-have (e ∷ es) d counted have =
      (have e.0 (λ none. counted.0 (first none)), entries-have es d.1 counted.1 (λ x some. have x (later x some (eq x e.0) refl)))
    where
      first : only (eq e.0 e.0) e.1 +ℤ weight eq es e.0 ≡ pos 0 → e.1 ≡ pos 0
      first none =
          let own = ap (λ b. only b e.1) (laws.refl e.0) in
          let others = weight-none eq e.0 es (none_past_head laws e.0 e es d (laws.refl e.0)) in
          omega (arith, ints, own, others, none)

      later : (x : E) → weight eq es x ≢ pos 0 → (b : Bool) → eq x e.0 ≡ b → only (eq x e.0) e.1 +ℤ weight eq es x ≢ pos 0
      later x some true is none = some (weight-none eq x es (none_past_head laws x e es d is))
      later x some false is none = some (let own = ap (λ b. only b e.1) is in omega (arith, ints, own, none))

module _ {E : Type 0} {eq : E → E → Bool} (same : (x y : E) → Decides (eq x y) (x ≡ y)) where
  -- what each item has, a value that is there has
  pub items-have : (P : E → Type 0) (xs : List E) → AllByRecursion P xs → (q : E) → times eq xs q ≢ pos 0 → P q
  items-have P [] all q some = absurd (some refl)
  items-have P (x ∷ xs) all q some = by (eq q x) refl some (items-have P xs all.1 q)
    where
      by : (b : Bool) → eq q x ≡ b → only b (pos 1) +ℤ times eq xs q ≢ pos 0 → (times eq xs q ≢ pos 0 → P q) → P q
      by true is some rest = subst P (sym ((same q x).0 is)) all.0
      by false is some rest = rest (λ none. some (omega (arith, ints, none)))

  weight-absent : (es : List (E × ℤ)) (q : E) → list_any (eq q) (keys_of es) ≡ false → weight eq es q ≡ pos 0
  weight-absent [] q none = refl
  weight-absent (e ∷ es) q none = by (eq q e.0) none (weight-absent es q)
    where
      by : (b : Bool) → (b || list_any (eq q) (keys_of es)) ≡ false → (list_any (eq q) (keys_of es) ≡ false → weight eq es q ≡ pos 0) → only b e.1 +ℤ weight eq es q ≡ pos 0
      by true none rest = absurd (true≢false none)
      by false none rest = let zero = rest none in omega (arith, ints, zero)

  each-among : (whole xs : List E) → ((q : E) → list_any (eq q) xs ≡ true → list_any (eq q) whole ≡ true) → AllByRecursion (λ x. list_any (eq x) whole ≡ true) xs
  each-among whole [] within = tt
  each-among whole (x ∷ xs) within = (
    within x (ap (λ b. b || list_any (eq x) xs) ((same x x).1 refl)),
    each-among whole xs (λ q there. within q (by (eq q x) (list_any (eq q) xs) there)),
  )
    where
      by : (b c : Bool) → c ≡ true → (b || c) ≡ true
      by true c h = refl
      by false c h = h

  -- a value that the list has is among the keys that count the list
  counted-among : (es : List (E × ℤ)) (xs : List E) → ((q : E) → weight eq es q ≡ times eq xs q) → AllByRecursion (λ x. list_any (eq x) (keys_of es) ≡ true) xs
  counted-among es xs held = over xs (each-among xs xs (λ q h. h))
    where
      among : (q : E) → list_any (eq q) xs ≡ true → (b : Bool) → list_any (eq q) (keys_of es) ≡ b → b ≡ true
      among q there true is = refl
      among q there false is =
          let some = times-present eq xs q there in
          let none = weight-absent es q is in
          let both = held q in
          let never : ⊥ = omega (arith, ints, some, none, both) in absurd never

      over : (ys : List E) → AllByRecursion (λ x. list_any (eq x) xs ≡ true) ys → AllByRecursion (λ x. list_any (eq x) (keys_of es) ≡ true) ys
      over [] all = tt
      over (y ∷ ys) all = (among y all.0 (list_any (eq y) (keys_of es)) refl, over ys all.1)

-- ---- the keys that a change touches

module _ {V : Type 0} {test : V → V → Bool} (same : (x y : V) → Decides (test x y) (x ≡ y)) (knows0 knows1 : V → Type 0) (shown0 shown1 : V → Term)
    (alike : (v : V) → knows0 v → IsShownAlike shown0 knows1 shown1 v) (apart : AreToldApart knows1 shown1) (width : ℕ) (keys : List ℕ)
    (change touched : List (Cells V × ℤ)) (known : AllByRecursion (λ (e : Cells V × ℤ). IsKnown knows0 e.0) change) (changes : AreChanges (row_eq test) touched)
    (counted : (q : Cells V) → weight (row_eq test) touched q ≡ times (row_eq test) (map (λ e. projection width keys e.0) change) q) where
  touch-each : (es : List (Cells V × ℤ)) → AllByRecursion (λ (e : Cells V × ℤ). IsKnown knows0 e.0) es → AllByRecursion (MayTouch knows1 width keys) (map (λ e. projection width keys e.0) es)
  touch-each [] known = tt
  touch-each (e ∷ es) known = (
    record {
      known = row_known shown0 knows1 shown1 (projection width keys e.0) (known_weaker alike (projection width keys e.0) (known-projection knows0 width keys e.0 known.0));
      long = row_by-long width _;
      keyless = λ none. ap (λ ks. projection width ks e.0) none;
    },
    touch-each es known.1,
  )

  pub touched-may : AllByRecursion (MayTouch knows1 width keys) (keys_of touched)
  touched-may =
      entries-have (decided (row_eq test) (row_decides same)) (MayTouch knows1 width keys) touched changes.distinct
      (recursion_from_All (λ (e : Cells V × ℤ). e.1 ≢ pos 0) touched changes.counted)
      (λ q some. items-have (row_decides same) (MayTouch knows1 width keys) (map (λ e. projection width keys e.0) change) (touch-each change known) q
      (λ none. some (counted q ∙ none)))

  abbrev shown_keys : List (Cells Term)
  shown_keys = map (shown_row shown1) (keys_of touched)

  abbrev touches : Cells Term → Bool
  touches q = list_any (same_row q) shown_keys

  known-keys : (qs : List (Cells V)) → AllByRecursion (MayTouch knows1 width keys) qs → AllByRecursion (IsKnown knows1) qs
  known-keys [] may = tt
  known-keys (q ∷ qs) may = (may.0.known, known-keys qs may.1)

  pub touched-once : IsOnce touches shown_keys
  touched-once = distinct-once shown_keys (distinct-shown same knows1 shown1 apart (keys_of touched) (known-keys (keys_of touched) touched-may) changes.distinct)

  any-shown : (q : Cells V) (qs : List (Cells V)) → list_any (row_eq test q) qs ≡ true → list_any (same_row (shown_row shown1 q)) (map (shown_row shown1) qs) ≡ true
  any-shown q [] there = there
  any-shown q (x ∷ qs) there = by (row_eq test q x) refl there (any-shown q qs)
    where
      by : (b : Bool) → row_eq test q x ≡ b → (b || list_any (row_eq test q) qs) ≡ true
          → (list_any (row_eq test q) qs ≡ true → list_any (same_row (shown_row shown1 q)) (map (shown_row shown1) qs) ≡ true)
          → (same_row (shown_row shown1 q) (shown_row shown1 x) || list_any (same_row (shown_row shown1 q)) (map (shown_row shown1) qs)) ≡ true
      by true is there rest =
          ap (λ b. b || list_any (same_row (shown_row shown1 q)) (map (shown_row shown1) qs))
          ((decides (shown_row shown1 q) (shown_row shown1 x)).1 (ap (shown_row shown1) ((row_decides same q x).0 is)))
      by false is there rest = either (same_row (shown_row shown1 q) (shown_row shown1 x)) (rest there)
        where
          either : (b : Bool) {c : Bool} → c ≡ true → (b || c) ≡ true
          either true h = refl
          either false h = h

  -- the key of a changed row is touched, so a key that isn't is apart from all of them
  apart-each : (key : Cells Term) → touches key ≡ false → (es : List (Cells V × ℤ)) → AllByRecursion (λ (e : Cells V × ℤ). IsKnown knows0 e.0) es
      → AllByRecursion (λ x. list_any (row_eq test x) (keys_of touched) ≡ true) (map (λ e. projection width keys e.0) es)
      → AllByRecursion (λ (e : Cells V × ℤ). same_row key (projection width keys (shown_row shown0 e.0)) ≡ false) es
  apart-each key none [] known among = tt
  apart-each key none (e ∷ es) known among = (by (same_row key (projection width keys (shown_row shown0 e.0))) refl, apart-each key none es known.1 among.1)
    where
      projected : projection width keys (shown_row shown0 e.0) ≡ shown_row shown1 (projection width keys e.0)
      projected =
          projection-shown shown0 width keys e.0
          ∙ sym (row_alike shown0 knows1 shown1 (projection width keys e.0) (known_weaker alike (projection width keys e.0) (known-projection knows0 width keys e.0 known.0)))

      by : (b : Bool) → same_row key (projection width keys (shown_row shown0 e.0)) ≡ b → b ≡ false
      by false is = refl
      by true is =
          let here : key ≡ shown_row shown1 (projection width keys e.0) = (decides key _).0 is ∙ projected in
          absurd (true≢false (sym (any-shown (projection width keys e.0) (keys_of touched) among.0) ∙ ap touches (sym here) ∙ none))

  unweighted : (key row : Cells Term) → same_row key (projection width keys row) ≡ true → (es : List (Cells V × ℤ))
      → AllByRecursion (λ (e : Cells V × ℤ). same_row key (projection width keys (shown_row shown0 e.0)) ≡ false) es
      → weight_shown same_row (shown_row shown0) es row ≡ pos 0
  unweighted key row here [] apart_es = refl
  unweighted key row here (e ∷ es) apart_es =
      let rest = unweighted key row here es apart_es.1 in
      let one = times-only e.1 (same_row row (shown_row shown0 e.0)) ∙ ap (λ b. only b e.1) (by (same_row row (shown_row shown0 e.0)) refl) in
      omega (arith, ints, rest, one)
    where
      by : (b : Bool) → same_row row (shown_row shown0 e.0) ≡ b → b ≡ false
      by false is = refl
      by true is =
          absurd (true≢false (sym here ∙ ap (λ r. same_row key (projection width keys r)) ((decides row (shown_row shown0 e.0)).0 is) ∙ apart_es.0))

  module _ (before after : List (Cells Term)) (leads : Leads shown0 before change after) where
    filtered : (p : Cells Term → Bool) (rows : List (Cells Term)) (q : Cells Term) → times same_row (filter p rows) q ≡ only (p q) (times same_row rows q)
    filtered p rows q = sum_z-filter (λ x. only (same_row q x) (pos 1)) p rows ∙ over rows
      where
        nothing : (b : Bool) → only b (pos 0) ≡ pos 0
        nothing true = refl
        nothing false = refl

        one : (x : Cells Term) (b : Bool) → same_row q x ≡ b → only (p x) (only b (pos 1)) ≡ only (p q) (only b (pos 1))
        one x true is = ap (λ z. only (p z) (pos 1)) (sym ((decides q x).0 is))
        one x false is = nothing (p x) ∙ sym (nothing (p q))

        added : (b : Bool) (m n : ℤ) → only b m +ℤ only b n ≡ only b (m +ℤ n)
        added true m n = refl
        added false m n = refl

        over : (xs : List (Cells Term)) → sum_z (λ x. only (p x) (only (same_row q x) (pos 1))) xs ≡ only (p q) (times same_row xs q)
        over [] = sym (nothing (p q))
        over (x ∷ xs) =
            (λ i. one x (same_row q x) refl i +ℤ over xs i) ∙ added (p q) (only (same_row q x) (pos 1)) (times same_row xs q)

    pub group-stays : (key : Cells Term) → touches key ≡ false → IsSameMultiset same_row (group_of width keys after key) (group_of width keys before key)
    group-stays key none row =
        filtered p after row ∙ by (p row) refl ∙ sym (filtered p before row)
      where
        p : Cells Term → Bool
        p r = same_row key (projection width keys r)

        by : (b : Bool) → p row ≡ b → only b (times same_row after row) ≡ only b (times same_row before row)
        by false is = refl
        by true is =
            let zero = unweighted key row is change (apart-each key none change known
            (counted-among (row_decides same) touched (map (λ e. projection width keys e.0) change) counted)) in
            let whole = leads row in
            omega (arith, ints, zero, whole)

    there-stays : (ks : List ℕ) → ks ≡ keys → (key : Cells Term) → touches key ≡ false → is_group width ks after key ≡ is_group width ks before key
    there-stays [] is key none = refl
    there-stays (v ∷ vs) is key none =
        group-of_keyed width v vs after key ∙ some-rows width (v ∷ vs) after key
        ∙ ap (λ n. nat_lt 0 n) (ap (λ ks. length (group_of width ks after key)) is ∙ length-same decides _ _ (group-stays key none) ∙ ap (λ ks. length (group_of width ks before key)) (sym is))
        ∙ sym (some-rows width (v ∷ vs) before key) ∙ sym (group-of_keyed width v vs before key)

    module _ {A : Type 0} (variable : A → ℕ) (argument : A → Cells Term → Option Term) (aggregate : A → List (Option Term) → Option Term) (aggregates : List A)
        (same_value : (a : A) (values others : List (Option Term)) → IsSameMultiset (option_eq term_eq) values others → aggregate a values ≡ aggregate a others) where
      -- a group's row
      abbrev row_of : List (Cells Term) → Cells Term → Cells Term
      row_of rows key =
          with_values (λ a group. aggregate a (map (argument a) group)) width (map {B = ℕ × A} (λ a. (variable a, a)) aggregates) (group_of width keys rows key) key

      row-stays : (key : Cells Term) → touches key ≡ false → row_of after key ≡ row_of before key
      row-stays key none =
          values-alike variable argument aggregate width aggregates (group_of width keys after key) (group_of width keys before key)
          (λ a. same_value a _ _ (same-map decides (option_eq term_eq) (argument a) _ _ (group-stays key none))) key

      pub groups-changed : (q : Cells Term)
          → times same_row (map (row_of after) (group_keys width keys after)) q +ℤ times same_row (map (row_of before) (filter (is_group width keys before) shown_keys)) q
          ≡ times same_row (map (row_of before) (group_keys width keys before)) q +ℤ times same_row (map (row_of after) (filter (is_group width keys after) shown_keys)) q
      groups-changed =
          rows-changed (group_keys width keys before) (group_keys width keys after) shown_keys (is_group width keys before) (is_group width keys after) touches
          (row_of before) (row_of after) (groups-once width keys before) (groups-once width keys after) touched-once
          (λ key none. (there-stays keys refl key none, row-stays key none))

-- ---- the rows of groups, as the algebra has them

module _ {V A : Type 0} (shown : V → Term) (width : ℕ) (keys : List ℕ) (variable : A → ℕ) (argument : A → Cells Term → Option Term) (aggregate : A → List (Option Term) → Option Term)
    (aggregates : List A) (rows : List (Cells Term)) where
  abbrev the_row : List (Cells Term) → Cells Term → Cells Term
  the_row group key = with_values (λ a group. aggregate a (map (argument a) group)) width (map {B = ℕ × A} (λ a. (variable a, a)) aggregates) group key

  row-valued : (group : List (Cells Term)) (key : Cells Term)
      → group_row width (map variable aggregates) (map argument aggregates) (map aggregate aggregates) group key ≡ the_row group key
  row-valued group key =
      ap (λ rs. with_cells width (map variable aggregates) rs key) (results-valued variable argument aggregate aggregates group)
      ∙ cells-valued variable argument aggregate width aggregates group key

  pub rows-valued : (qs : List (Cells V)) → rows_over shown width keys (group_row width (map variable aggregates) (map argument aggregates) (map aggregate aggregates)) rows qs
      ≡ map (λ key. the_row (group_of width keys rows key) key) (filter (is_group width keys rows) (map (shown_row shown) qs))
  rows-valued qs = λ i. map (λ key. row-valued (group_of width keys rows key) key i) (filter (is_group width keys rows) (map (shown_row shown) qs))

-- ---- the change that is answered

module _ {V : Type 0} {test : V → V → Bool} (same : (x y : V) → Decides (test x y) (x ≡ y)) (shown : V → Term) where
  listed-shown : (xs : List (Cells V)) (q : Cells Term) → weight_shown same_row (shown_row shown) (entries_of xs) q ≡ times same_row (map (shown_row shown) xs) q
  listed-shown xs q = total-entries_of (λ x. only (same_row q (shown_row shown x)) (pos 1)) xs ∙ sym (sum_z-map (λ r. only (same_row q r) (pos 1)) (shown_row shown) xs)

  pub net-shown : (net : List (Cells V × ℤ)) (befores afters : List (Cells V))
      → ((x : Cells V) → weight (row_eq test) net x ≡ times (row_eq test) afters x +ℤ neg_ℤ (times (row_eq test) befores x)) → (q : Cells Term)
      → weight_shown same_row (shown_row shown) net q ≡ times same_row (map (shown_row shown) afters) q +ℤ neg_ℤ (times same_row (map (shown_row shown) befores) q)
  net-shown net befores afters made q =
      let both = entries_of afters ++ negation (entries_of befores) in
      let alike = weight_shown-same (row_decides same) same_row (shown_row shown) net both (λ x.
      let whole = made x in
      let sum = weight-append (row_eq test) (entries_of afters) (negation (entries_of befores)) x in
      let first = weight-entries_of (row_eq test) afters x in
      let second = weight-entries_of (row_eq test) befores x in
      let turn = weight-negated (row_eq test) (entries_of befores) x in
      omega (arith, ints, whole, sum, first, second, turn)) q in
      let sum = total-append (λ x. only (same_row q (shown_row shown x)) (pos 1)) (entries_of afters) (negation (entries_of befores)) in
      let turn = weight_shown-negated (shown_row shown) same_row (entries_of befores) q in
      let first = listed-shown afters q in
      let second = listed-shown befores q in
      omega (arith, ints, alike, sum, turn, first, second)
