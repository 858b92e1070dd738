-- A change of rows as rows that come and then rows that go, and groups under lists that are one multiset.
use Rattle.std.proofs.Common.{◌≡◌, ℕ, zero, suc, nat_eq, Bool, true, false, List, [], ◌∷◌, ◌++◌, ℤ, pos, negsuc, ◌+ℤ◌, length, map, refl, sym, ap, subst, ◌∙◌, arith, Decides}
use Rattle.std.specs.Prelude.{Option, Some, None, IfSome, if◌then◌else◌}
use Rattle.std.specs.Option.{option_eq, option_map, option_to_list}
use Rattle.std.specs.List.{AllByRecursion, AllZip, range_with_len}
use Rattle.std.specs.Map.{lookup}
use Rattle.std.proofs.lemmas.Int.{ints}
use Rattle.rsp_folds.specs.Copies.{copies}
use Rattle.rsp_expr.specs.Groups.{group_of}
use Rattle.rsp_groups.specs.Moves.{part, columns, values_in, results_over}
use Rattle.rsp_groups.specs.Standing.{GroupStands, GroupsStand, Steps, IsEntry}
use Rattle.rsp_groups.specs.Turns.{Turn}
use Rattle.rsp_groups.specs.Answers.{IsRow, Shows, is_group, with_cells, group_row}
use Rattle.rsp_groups.proofs.Answering.{group-of_keyed}
use Rattle.std.proofs.lemmas.List.FromFn.{length-map-range_with_len}
use Rattle.rsp_groups.specs.Carrying.{known_weaker, row_alike, row_known}
use Rattle.rsp_multiset.specs.Rows.{Cells, row_eq}
use Rattle.rsp_multiset.specs.RowSame.{row_decides}
use Rattle.rsp_multiset.specs.Shown.{shown_row, IsKnown, weight_shown}
use Rattle.rsp_multiset.specs.Variables.{row_by, cell, among, projection, extension}
use Rattle.rsp_multiset.specs.Weights.{only, times, IsSameMultiset}
use Rattle.rsp_multiset.proofs.Changing.{times-append}
use Rattle.rsp_multiset.proofs.Linear.{length-same}
use Rattle.rsp_multiset.proofs.SameLists.{same-map, same-filter, same-any}
use Rattle.rsp_multiset.proofs.Shown.{times-only, projection-shown, extension-shown}
use Rattle.rsp_terms.specs.declared.term.Term.{Term}
use Rattle.rsp_terms.specs.Same.{term_eq, term_same}
use Rattle.rsp_operators.specs.Laws.{Leads, IsShownAlike}

abbrev same_row : Cells Term → Cells Term → Bool
same_row = row_eq term_eq

decides : (a b : Cells Term) → Decides (same_row a b) (a ≡ b)
decides = row_decides term_same

-- ---- groups under lists that are one multiset

module _ {F : Type 0} (stands : F → List (Option Term) → Type 0)
    (alike : (fold : F) (values others : List (Option Term)) → IsSameMultiset (option_eq term_eq) values others → stands fold values → stands fold others) where
  folds-alike : (folds : List F) (arguments : List (Cells Term → Option Term)) (rows others : List (Cells Term)) → IsSameMultiset same_row rows others
      → AllZip stands folds (columns arguments rows) → AllZip stands folds (columns arguments others)
  folds-alike [] [] rows others same zip = tt
  folds-alike [] (of ∷ arguments) rows others same zip = zip
  folds-alike (fold ∷ folds) [] rows others same zip = zip
  folds-alike (fold ∷ folds) (of ∷ arguments) rows others same zip =
      (alike fold (map of rows) (map of others) (same-map decides (option_eq term_eq) of rows others same) zip.0, folds-alike folds arguments rows others same zip.1)

  pub group-alike : (aggregate : F → List (Option Term) → Option Term) (arguments : List (Cells Term → Option Term)) (kinds : List (List (Option Term) → Option Term)) (number : ℕ) (folds : List F)
      (rows others : List (Cells Term)) → IsSameMultiset same_row rows others → GroupStands stands aggregate arguments kinds number folds rows
      → GroupStands stands aggregate arguments kinds number folds others
  group-alike aggregate arguments kinds number folds rows others same group = record {
    count = group.count ∙ length-same decides rows others same;
    folds = folds-alike folds arguments rows others same group.folds;
    aggregates = group.aggregates;
  }

-- a key's group is one of the rows' alone
group-of_alike : (width : ℕ) (keys : List ℕ) (rows others : List (Cells Term)) (key : Cells Term) → IsSameMultiset same_row rows others
    → is_group width keys others key ≡ is_group width keys rows key
group-of_alike width [] rows others key same = refl
group-of_alike width (v ∷ vs) rows others key same =
    group-of_keyed width v vs others key
    ∙ (sym (same-any decides (λ row. same_row key (projection width (v ∷ vs) row)) rows others same) ∙ sym (group-of_keyed width v vs rows key))

-- a group's row hangs on its rows as a multiset alone
module _ {A : Type 0} (aggregate : A → List (Option Term) → Option Term)
    (alike : (a : A) (values others : List (Option Term)) → IsSameMultiset (option_eq term_eq) values others → aggregate a values ≡ aggregate a others) where
  results-same : (list : List A) (arguments : List (Cells Term → Option Term)) (rows others : List (Cells Term)) → IsSameMultiset same_row rows others
      → results_over (map aggregate list) (columns arguments rows) ≡ results_over (map aggregate list) (columns arguments others)
  results-same [] [] rows others same = refl
  results-same [] (of ∷ arguments) rows others same = refl
  results-same (a ∷ list) [] rows others same = refl
  results-same (a ∷ list) (of ∷ arguments) rows others same =
      λ i. alike a (map of rows) (map of others) (same-map decides (option_eq term_eq) of rows others same) i ∷ results-same list arguments rows others same i

  pub group_row-same : (width : ℕ) (variables : List ℕ) (list : List A) (arguments : List (Cells Term → Option Term)) (rows others : List (Cells Term)) (key : Cells Term)
      → IsSameMultiset same_row rows others → group_row width variables arguments (map aggregate list) rows key ≡ group_row width variables arguments (map aggregate list) others key
  group_row-same width variables list arguments rows others key same = ap (λ rs. with_cells width variables rs key) (results-same list arguments rows others same)

pub groups-alike : {V G : Type 0} {test : V → V → Bool} (knows : V → Type 0) (shown : V → Term) (width : ℕ) (keys : List ℕ) (Holds : G → List (Cells Term) → Type 0)
    (given : G → Option (Cells V)) (row_of : List (Cells Term) → Cells Term → Cells Term)
    → ((h : G) (rows others : List (Cells Term)) → IsSameMultiset same_row rows others → Holds h rows → Holds h others)
    → ((rows others : List (Cells Term)) (key : Cells Term) → IsSameMultiset same_row rows others → row_of rows key ≡ row_of others key)
    → (groups : List (Cells V × G)) (rows others : List (Cells Term)) → IsSameMultiset same_row rows others
    → GroupsStand test knows shown width keys Holds given row_of groups rows → GroupsStand test knows shown width keys Holds given row_of groups others
groups-alike {V} {G} {test} knows shown width keys Holds given row_of alike alike_row groups rows others same stands = record {
  known = stands.known;
  held = λ q. by q (lookup (row_eq test q) groups) (stands.held q);
  gave = λ q. by_given q (lookup (row_eq test q) groups) (stands.gave q);
  whole = λ key there. stands.whole key (same-any decides (λ row. same_row key (projection width keys row)) rows others same ∙ there);
  keyless = stands.keyless;
  are = λ q some. group-of_alike width keys rows others (shown_row shown q) same ∙ stands.are q some;
}
  where
    same_group : (q : Cells V) → IsSameMultiset same_row (group_of width keys rows (shown_row shown q)) (group_of width keys others (shown_row shown q))
    same_group q = same-filter decides (λ row. same_row (shown_row shown q) (projection width keys row)) rows others same

    by : (q : Cells V) (found : Option G) → IfSome found (λ h. Holds h (group_of width keys rows (shown_row shown q)))
        → IfSome found (λ h. Holds h (group_of width keys others (shown_row shown q)))
    by q None held = tt
    by q (Some h) held = alike h (group_of width keys rows (shown_row shown q)) (group_of width keys others (shown_row shown q)) (same_group q) held

    by_given : (q : Cells V) (found : Option G)
        → IfSome found (λ h. IfSome (given h) (λ row. Shows width knows shown row (row_of (group_of width keys rows (shown_row shown q)) (shown_row shown q))))
        → IfSome found (λ h. IfSome (given h) (λ row. Shows width knows shown row (row_of (group_of width keys others (shown_row shown q)) (shown_row shown q))))
    by_given q None gave = tt
    by_given q (Some h) gave =
        subst (λ cells. IfSome (given h) (λ row. Shows width knows shown row cells))
        (alike_row (group_of width keys rows (shown_row shown q)) (group_of width keys others (shown_row shown q)) (shown_row shown q) (same_group q)) gave

-- ---- rows that come, and rows that go

times-copies : (n : ℕ) (x q : Cells Term) → times same_row (copies n x) q ≡ only (same_row q x) (pos n)
times-copies zero x q = by (same_row q x)
  where
    by : (b : Bool) → pos 0 ≡ only b (pos 0)
    by true = refl
    by false = refl
times-copies (suc n) x q = by (same_row q x) (times-copies n x q)
  where
    by : (b : Bool) → times same_row (copies n x) q ≡ only b (pos n) → only b (pos 1) +ℤ times same_row (copies n x) q ≡ only b (pos (suc n))
    by true rest = omega (arith, ints, rest)
    by false rest = omega (arith, ints, rest)

-- how many of q come in, or go out
abbrev moving : Bool → List (Cells Term × ℤ) → Cells Term → ℤ
moving out [] q = pos 0
moving out (e ∷ es) q = only (same_row q e.0) (pos (part out e.1)) +ℤ moving out es q

record Reaches (out : Bool) (es : List (Cells Term × ℤ)) (start : List (Cells Term)) (P : List (Cells Term) → Type 0) : Type 0 where
  end : List (Cells Term)
  reached : P end
  sum : (q : Cells Term) → times same_row end q ≡ times same_row start q +ℤ moving out es q

coming : (es : List (Cells Term × ℤ)) (before : List (Cells Term)) → Reaches false es before (λ come. Steps false es before come)
coming [] before = record { end = before; reached = refl; sum = λ q. omega (arith, ints) }
coming (e ∷ es) before =
    let next = copies (part false e.1) e.0 ++ before in
    let rest = coming es next in
    record {
      end = rest.end;
      reached = (next, (refl, rest.reached));
      sum = λ q.
          let all = rest.sum q in
          let first = times-append same_row (copies (part false e.1) e.0) before q in
          let some = times-copies (part false e.1) e.0 q in
          omega (arith, ints, all, first, some);
    }

leaving : (es : List (Cells Term × ℤ)) (after : List (Cells Term)) → Reaches true es after (λ going. Steps true es going after)
leaving [] after = record { end = after; reached = refl; sum = λ q. omega (arith, ints) }
leaving (e ∷ es) after =
    let rest = leaving es after in
    record {
      end = copies (part true e.1) e.0 ++ rest.end;
      reached = (rest.end, (refl, rest.reached));
      sum = λ q.
          let all = rest.sum q in
          let first = times-append same_row (copies (part true e.1) e.0) rest.end q in
          let some = times-copies (part true e.1) e.0 q in
          omega (arith, ints, all, first, some);
    }

parts : (b : Bool) (n : ℤ) → only b (pos (part false n)) ≡ only b n +ℤ only b (pos (part true n))
parts true (pos n) = omega (arith, ints)
parts true (negsuc n) = omega (arith, ints)
parts false n = refl

-- the entries by what they show
abbrev pub shown_change : {V : Type 0} → (V → Term) → List (Cells V × ℤ) → List (Cells Term × ℤ)
shown_change shown change = map {B = Cells Term × ℤ} (λ e. (shown_row shown e.0, e.1)) change

both-moving : {V : Type 0} (shown : V → Term) (change : List (Cells V × ℤ)) (q : Cells Term)
    → moving false (shown_change shown change) q ≡ weight_shown same_row (shown_row shown) change q +ℤ moving true (shown_change shown change) q
both-moving shown [] q = refl
both-moving shown (e ∷ change) q =
    let rest = both-moving shown change q in
    let one = times-only e.1 (same_row q (shown_row shown e.0)) in
    let both = parts (same_row q (shown_row shown e.0)) e.1 in
    omega (arith, ints, rest, one, both)

pub turn-of : {V : Type 0} (shown : V → Term) (before after : List (Cells Term)) (change : List (Cells V × ℤ)) → Leads shown before change after
    → Turn (shown_change shown change) before after
turn-of shown before after change leads =
    let come = coming (shown_change shown change) before in
    let going = leaving (shown_change shown change) after in
    record {
      come = come.end;
      going = going.end;
      comes = come.reached;
      same = λ q.
          let first = come.sum q in
          let second = going.sum q in
          let both = both-moving shown change q in
          let whole = leads q in
          omega (arith, ints, first, second, both, whole);
      goes = going.reached;
    }

-- ---- keys are known as their rows are

known-cell : {V : Type 0} (knows : V → Type 0) (row : Cells V) (v : ℕ) → IsKnown knows row → IfSome (cell row v) knows
known-cell knows [] v known = tt
known-cell knows (x ∷ row) zero known = known.0
known-cell knows (x ∷ row) (suc v) known = known-cell knows row v known.1

known-row_by : {V : Type 0} (knows : V → Type 0) (width : ℕ) (f : ℕ → Option V) → ((v : ℕ) → IfSome (f v) knows) → IsKnown knows (row_by width f)
known-row_by {V} knows width f each = over (range_with_len 0 width)
  where
    over : (vs : List ℕ) → IsKnown knows (map f vs)
    over [] = tt
    over (v ∷ vs) = (each v, over vs)

pub known-projection : {V : Type 0} (knows : V → Type 0) (width : ℕ) (keys : List ℕ) (row : Cells V) → IsKnown knows row → IsKnown knows (projection width keys row)
known-projection {V} knows width keys row known = known-row_by knows width _ (λ v. either (among keys v) (cell row v) (known-cell knows row v known))
  where
    either : (b : Bool) (o : Option V) → IfSome o knows → IfSome (if b then o else None) knows
    either true o h = h
    either false o h = tt

pub known-unbound : {V : Type 0} (knows : V → Type 0) (width : ℕ) → IsKnown knows (row_by width (λ _. None))
known-unbound knows width = known-row_by knows width (λ _. None) (λ v. tt)

-- ---- entries by what is read of them

heads : {X : Type 0} (x y : X) (a b : List X) → x ∷ a ≡ y ∷ b → x ≡ y
heads x y a b h = cc

tails : {X : Type 0} (x y : X) (a b : List X) → x ∷ a ≡ y ∷ b → a ≡ b
tails x y a b h = cc

module _ {V X : Type 0} (knows0 knows1 : V → Type 0) (shown0 shown1 : V → Term) (alike : (v : V) → knows0 v → IsShownAlike shown0 knows1 shown1 v)
    (width : ℕ) (keys : List ℕ) (arguments : List (Cells Term → Option Term)) (key : X → Cells V) (values : X → List (Option Term)) (by : X → ℤ) where
  pub entries-read : (entries : List X) (change : List (Cells V × ℤ)) → map key entries ≡ map (λ e. projection width keys e.0) change
      → map values entries ≡ map (λ e. values_in arguments (shown_row shown0 e.0)) change → map by entries ≡ map (λ e. e.1) change
      → AllByRecursion (λ (e : Cells V × ℤ). IsKnown knows0 e.0) change
      → AllZip (λ x. IsEntry knows1 shown1 width keys arguments (key x) (values x) (by x)) entries (shown_change shown0 change)
  entries-read [] [] k v b known = tt
  entries-read [] (e ∷ change) k v b known = let lengths = ap length k in let never : ⊥ = omega (arith, lengths) in absurd never
  entries-read (x ∷ entries) [] k v b known = let lengths = ap length k in let never : ⊥ = omega (arith, lengths) in absurd never
  entries-read (x ∷ entries) (e ∷ change) k v b known =
      let key_is = heads (key x) (projection width keys e.0) (map key entries) (map (λ e. projection width keys e.0) change) k in
      let projected = known-projection knows0 width keys e.0 known.0 in
      let learnt = known_weaker alike (projection width keys e.0) projected in (
        record {
          known = subst (IsKnown knows1) (sym key_is) (row_known shown0 knows1 shown1 (projection width keys e.0) learnt);
          key = projection-shown shown0 width keys e.0 ∙ sym (row_alike shown0 knows1 shown1 (projection width keys e.0) learnt) ∙ ap (shown_row shown1) (sym key_is);
          values = heads (values x) (values_in arguments (shown_row shown0 e.0)) (map values entries) (map (λ e. values_in arguments (shown_row shown0 e.0)) change) v;
          count = heads (by x) e.1 (map by entries) (map (λ e. e.1) change) b;
        },
        entries-read entries change
            (tails (key x) (projection width keys e.0) (map key entries) (map (λ e. projection width keys e.0) change) k)
            (tails (values x) (values_in arguments (shown_row shown0 e.0)) (map values entries) (map (λ e. values_in arguments (shown_row shown0 e.0)) change) v)
            (tails (by x) e.1 (map by entries) (map (λ e. e.1) change) b) known.1,
      )

-- ---- rows with values that a domain learns

pub row_by-long : {V : Type 0} (width : ℕ) (f : ℕ → Option V) → length (row_by width f) ≡ width
row_by-long width f = length-map-range_with_len f 0 width

module _ {V : Type 0} (knows0 knows2 : V → Type 0) (shown0 shown2 : V → Term) (alike : (v : V) → knows0 v → IsShownAlike shown0 knows2 shown2 v)
    (width variable : ℕ) (value : Option V) where
  pub extended-shown : (term : Option Term) (row made : Cells V) → IsKnown knows0 row → made ≡ extension width variable value row → option_map shown2 value ≡ term
      → shown_row shown2 made ≡ extension width variable term (shown_row shown0 row)
  extended-shown term row made known is value_is =
      let rows = row_alike shown0 knows2 shown2 row (known_weaker alike row known) in
      ap (shown_row shown2) is ∙ (sym (extension-shown shown2 width variable value row) ∙ (λ i. extension width variable (value_is i) (rows i)))

  pub extended-is_row : (row made : Cells V) → IsKnown knows0 row → made ≡ extension width variable value row → IfSome value knows2 → IsRow width knows2 made
  extended-is_row row made known is value_known = record {
    long = ap length is ∙ row_by-long width _;
    known = subst (IsKnown knows2) (sym is) (known-row_by knows2 width _ (λ v. either (nat_eq v variable) (cell row v) (known-cell knows2 row v (known_weaker (λ w k. (alike w k).0) row known))));
  }
    where
      either : (here : Bool) (other : Option V) → IfSome other knows2 → IfSome (if here then value else other) knows2
      either true other known = value_known
      either false other known = known

-- rows stay rows, and show the same, as the domain learns
module _ {V : Type 0} (width : ℕ) (knows1 knows2 : V → Type 0) (shown1 shown2 : V → Term) (next : (v : V) → knows1 v → IsShownAlike shown1 knows2 shown2 v) where
  pub rows-weaker : (rows : List (Cells V)) → AllByRecursion (IsRow width knows1) rows → AllByRecursion (IsRow width knows2) rows
  rows-weaker [] all = tt
  rows-weaker (row ∷ rows) all =
      (record { long = all.0.long; known = known_weaker (λ w k. (next w k).0) row all.0.known }, rows-weaker rows all.1)

  pub rows-alike : (rows : List (Cells V)) → AllByRecursion (IsRow width knows1) rows → map (shown_row shown2) rows ≡ map (shown_row shown1) rows
  rows-alike [] all = refl
  rows-alike (row ∷ rows) all = λ i. row_alike shown1 knows2 shown2 row (known_weaker next row all.0.known) i ∷ rows-alike rows all.1 i

  pub rows-joined : (out out' : List (Cells V)) (found : Option (Cells V)) → out' ≡ out ++ option_to_list found → AllByRecursion (IsRow width knows1) out
      → IfSome found (IsRow width knows2) → AllByRecursion (IsRow width knows2) out'
  rows-joined out out' found pushed all one = subst (AllByRecursion (IsRow width knows2)) (sym pushed) (join out (rows-weaker out all))
    where
      last : (o : Option (Cells V)) → IfSome o (IsRow width knows2) → AllByRecursion (IsRow width knows2) (option_to_list o)
      last None h = tt
      last (Some row) h = (h, tt)

      join : (xs : List (Cells V)) → AllByRecursion (IsRow width knows2) xs → AllByRecursion (IsRow width knows2) (xs ++ option_to_list found)
      join [] h = last found one
      join (x ∷ xs) h = (h.0, join xs h.1)
