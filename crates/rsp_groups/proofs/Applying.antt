-- What the parts of a change need of one another.
use Rattle.std.proofs.Common.{◌≡◌, ◌≢◌, ℕ, zero, suc, Bool, true, cond, List, [], ◌∷◌, ◌++◌, ℤ, pos, negsuc, ◌+ℤ◌, neg_ℤ, length, map, filter, refl, sym, ap, subst, ◌∙◌, arith, Decides}
use Rattle.std.specs.Prelude.{Option, Some, None, IfSome}
use Rattle.std.specs.List.{AllByRecursion, AllZip}
use Rattle.std.specs.Map.{keys_of}
use Rattle.std.specs.Option.{option_eq, option_map, option_to_list}
use Rattle.std.proofs.lemmas.Int.{ints}
use Rattle.std.proofs.lemmas.List.{append-nil, length-map}
use Rattle.rsp_expr.specs.Groups.{group_of, group_keys, with_values, grouped_by}
use Rattle.rsp_groups.specs.Answers.{is_group, group_row, row_over, rows_over, MayTouch, IsRow}
use Rattle.rsp_groups.specs.Moves.{values_in}
use Rattle.rsp_groups.specs.Standing.{IsEntry}
use Rattle.rsp_groups.specs.Values.{by_variable}
use Rattle.rsp_groups.proofs.Turning.{shown_change, entries-read, known-unbound, row_by-long, rows-alike}
use Rattle.rsp_groups.proofs.Answering.{unbound-shown}
use Rattle.rsp_groups.proofs.Giving.{first-over, shown-option}
use Rattle.rsp_groups.proofs.Concluding.{items-have, net-shown, touched-may, groups-changed, rows-valued}
use Rattle.rsp_multiset.specs.Rows.{Cells, row_eq}
use Rattle.rsp_multiset.specs.RowSame.{row_decides}
use Rattle.rsp_multiset.specs.Shown.{shown_row, IsKnown, AreToldApart}
use Rattle.rsp_multiset.specs.Variables.{projection, row_by}
use Rattle.rsp_multiset.specs.Weights.{weight, times, AreChanges, IsSameMultiset}
use Rattle.rsp_terms.specs.declared.term.Term.{Term}
use Rattle.rsp_terms.specs.Same.{term_eq, term_same}
use Rattle.rsp_operators.specs.Laws.{ChangesFit, AnswersFit, IsShownAlike, Leads}

abbrev same_row : Cells Term → Cells Term → Bool
same_row = row_eq term_eq

pub known-of : {V : Type 0} (width : ℕ) (knows : V → Type 0) (es : List (Cells V × ℤ)) → ChangesFit width [] knows es → AllByRecursion (λ (e : Cells V × ℤ). IsKnown knows e.0) es
known-of width knows [] fit = tt
known-of width knows (e ∷ es) fit = (fit.0.1, known-of width knows es fit.1)

-- ---- the net change

module _ {V : Type 0} {test : V → V → Bool} (same : (x y : V) → Decides (test x y) (x ≡ y)) (net : List (Cells V × ℤ)) (befores afters : List (Cells V))
    (made : (x : Cells V) → weight (row_eq test) net x ≡ times (row_eq test) afters x +ℤ neg_ℤ (times (row_eq test) befores x)) where
  pub net-fits : (width : ℕ) (knows : V → Type 0) → AllByRecursion (IsRow width knows) befores → AllByRecursion (IsRow width knows) afters → AnswersFit test width knows net
  net-fits width knows of_befores of_afters row some = by (times (row_eq test) afters row) refl
    where
      after : times (row_eq test) afters row ≢ pos 0 → (length row ≡ width) × IsKnown knows row
      after there = let is = items-have (row_decides same) (IsRow width knows) afters of_afters row there in (is.long, is.known)

      before : times (row_eq test) afters row ≡ pos 0 → (length row ≡ width) × IsKnown knows row
      before none =
          let is = items-have (row_decides same) (IsRow width knows) befores of_befores row (λ gone. some (let whole = made row in omega (arith, ints, whole, none, gone))) in
          (is.long, is.known)

      by : (n : ℤ) → times (row_eq test) afters row ≡ n → (length row ≡ width) × IsKnown knows row
      by (pos zero) is = before is
      by (pos (suc n)) is = after (λ none. let never : ⊥ = omega (arith, ints, is, none) in never)
      by (negsuc n) is = after (λ none. let never : ⊥ = omega (arith, ints, is, none) in never)

  pub net-leads : (shown : V → Term) (whole_before whole_after touched_before touched_after : List (Cells Term))
      → map (shown_row shown) befores ≡ touched_before → map (shown_row shown) afters ≡ touched_after
      → ((q : Cells Term) → times same_row whole_after q +ℤ times same_row touched_before q ≡ times same_row whole_before q +ℤ times same_row touched_after q)
      → Leads shown whole_before net whole_after
  net-leads shown whole_before whole_after touched_before touched_after first second changed q =
      let shows = net-shown same shown net befores afters made q in
      let one = ap (λ rows. times same_row rows q) first in
      let two = ap (λ rows. times same_row rows q) second in
      let all = changed q in
      omega (arith, ints, shows, one, two, all)

-- ---- what is read of a change, and the groups under the domain that learnt

module _ {V X A : Type 0} {test : V → V → Bool} (same : (x y : V) → Decides (test x y) (x ≡ y)) (knows0 knows1 : V → Type 0) (shown0 shown1 : V → Term)
    (alike : (v : V) → knows0 v → IsShownAlike shown0 knows1 shown1 v) (apart : AreToldApart knows1 shown1) (width : ℕ) (keys : List ℕ)
    (of : A → Cells Term → Option Term) (aggregates : List A) (key : X → Cells V) (values : X → List (Option Term)) (by : X → ℤ)
    (change touched : List (Cells V × ℤ)) (entries listed again : List X) (fit : ChangesFit width [] knows0 change) (changes : AreChanges (row_eq test) touched)
    (counted : (q : Cells V) → weight (row_eq test) touched q ≡ times (row_eq test) (map key listed) q) (first : listed ≡ entries) (second : again ≡ entries)
    (the_keys : map key entries ≡ map (λ e. projection width keys e.0) change)
    (the_values : map values entries ≡ map (λ e. map (λ a. of a (shown_row shown0 e.0)) aggregates) change)
    (the_counts : map by entries ≡ map (λ e. e.1) change) where
  change-known : AllByRecursion (λ (e : Cells V × ℤ). IsKnown knows0 e.0) change
  change-known = known-of width knows0 change fit

  keys-counted : (q : Cells V) → weight (row_eq test) touched q ≡ times (row_eq test) (map (λ e. projection width keys e.0) change) q
  keys-counted q = counted q ∙ ap (λ es. times (row_eq test) (map key es) q) first ∙ ap (λ ks. times (row_eq test) ks q) the_keys

  pub touched-all : AllByRecursion (MayTouch knows1 width keys) (keys_of touched)
  touched-all = touched-may same knows0 knows1 shown0 shown1 alike apart width keys change touched change-known changes keys-counted

  fused : (list : List A) (row : Cells Term) → map (λ a. of a row) list ≡ values_in (map of list) row
  fused [] row = refl
  fused (a ∷ list) row = ap (λ vs. of a row ∷ vs) (fused list row)

  all-fused : (es : List (Cells V × ℤ)) → map (λ e. map (λ a. of a (shown_row shown0 e.0)) aggregates) es ≡ map (λ e. values_in (map of aggregates) (shown_row shown0 e.0)) es
  all-fused [] = refl
  all-fused (e ∷ es) = λ i. fused aggregates (shown_row shown0 e.0) i ∷ all-fused es i

  pub entries-all : AllZip (λ x. IsEntry knows1 shown1 width keys (map of aggregates) (key x) (values x) (by x)) again (shown_change shown0 change)
  entries-all =
      subst (λ xs. AllZip (λ x. IsEntry knows1 shown1 width keys (map of aggregates) (key x) (values x) (by x)) xs (shown_change shown0 change)) (sym second)
      (entries-read knows0 knows1 shown0 shown1 alike width keys (map of aggregates) key values by entries change the_keys (the_values ∙ all-fused change) the_counts change-known)

  pub arguments-long : length (map of aggregates) ≡ length aggregates
  arguments-long = length-map aggregates of

  -- the net change, from the touched groups' rows before and after
  pub changed-all : (variable : A → ℕ) (aggregate : A → List (Option Term) → Option Term)
      → ((a : A) (xs others : List (Option Term)) → IsSameMultiset (option_eq term_eq) xs others → aggregate a xs ≡ aggregate a others)
      → (before after : List (Cells Term)) → Leads shown0 before change after → (q : Cells Term)
      → times same_row (grouped_by (λ a group. aggregate a (map (of a) group)) width keys (by_variable variable aggregates) after) q
      +ℤ times same_row (map (λ k. with_values (λ a group. aggregate a (map (of a) group)) width (by_variable variable aggregates) (group_of width keys before k) k)
      (filter (is_group width keys before) (map (shown_row shown1) (keys_of touched)))) q
      ≡ times same_row (grouped_by (λ a group. aggregate a (map (of a) group)) width keys (by_variable variable aggregates) before) q
      +ℤ times same_row (map (λ k. with_values (λ a group. aggregate a (map (of a) group)) width (by_variable variable aggregates) (group_of width keys after k) k)
      (filter (is_group width keys after) (map (shown_row shown1) (keys_of touched)))) q
  changed-all variable aggregate same_value before after leads q =
      groups-changed same knows0 knows1 shown0 shown1 alike apart width keys change touched change-known changes keys-counted before after leads variable of aggregate aggregates same_value q

-- ---- the rows of touched groups

touched-rows : {V : Type 0} (knows : V → Type 0) (width : ℕ) (keys : List ℕ) (qs : List (Cells V)) → AllByRecursion (MayTouch knows width keys) qs
    → AllByRecursion (IsRow width knows) qs
touched-rows knows width keys [] touch = tt
touched-rows knows width keys (q ∷ qs) touch = (record { long = touch.0.long; known = touch.0.known }, touched-rows knows width keys qs touch.1)

-- they are the algebra's, whatever of the keys the domain has learnt since
module _ {V A : Type 0} (knows1 knows2 : V → Type 0) (shown1 shown2 : V → Term) (alike : (v : V) → knows1 v → IsShownAlike shown1 knows2 shown2 v)
    (width : ℕ) (keys : List ℕ) (variable : A → ℕ) (of : A → Cells Term → Option Term) (aggregate : A → List (Option Term) → Option Term) (aggregates : List A)
    (qs : List (Cells V)) (touch : AllByRecursion (MayTouch knows1 width keys) qs) (rows : List (Cells Term)) where
  pub rows-made : rows_over shown2 width keys (group_row width (map variable aggregates) (map of aggregates) (map aggregate aggregates)) rows qs
      ≡ map (λ k. with_values (λ a group. aggregate a (map (of a) group)) width (by_variable variable aggregates) (group_of width keys rows k) k)
      (filter (is_group width keys rows) (map (shown_row shown1) qs))
  rows-made =
      rows-valued shown2 width keys variable of aggregate aggregates rows qs
      ∙ ap (λ ks. map (λ k. with_values (λ a group. aggregate a (map (of a) group)) width (by_variable variable aggregates) (group_of width keys rows k) k)
      (filter (is_group width keys rows) ks))
      (rows-alike width knows1 knows2 shown1 shown2 alike qs (touched-rows knows1 width keys qs touch))

-- ---- groups of no rows

group-nothing : (width : ℕ) (keys : List ℕ) (key : Cells Term) → key ≡ row_by width (λ _. None)
    → filter (is_group width keys []) (key ∷ []) ≡ group_keys width keys []
group-nothing width [] key is =
    let there : same_row key (row_by width (λ _. None)) ≡ true = (row_decides term_same key (row_by width (λ _. None))).1 is in
    (λ i. cond (there i) (key ∷ []) []) ∙ ap (λ k. k ∷ []) is
group-nothing width (v ∷ vs) key is = refl

pub nothing-touched : {V : Type 0} (knows : V → Type 0) (width : ℕ) (keys : List ℕ) (key : Cells V) → key ≡ row_by width (λ _. None) → MayTouch knows width keys key
nothing-touched knows width keys key is = record {
  known = subst (IsKnown knows) (sym is) (known-unbound knows width);
  long = ap length is ∙ row_by-long width _;
  keyless = λ none. is;
}

module _ {V : Type 0} (none made : List (Cells V)) (found : Option (Cells V)) (empty : none ≡ []) (pushed : made ≡ none ++ option_to_list found) where
  made-is : made ≡ option_to_list found
  made-is = pushed ∙ ap (λ xs. xs ++ option_to_list found) empty

  pub nothing-fits : (width : ℕ) (knows : V → Type 0) → IfSome found (IsRow width knows) → AllByRecursion (IsRow width knows) made
  nothing-fits width knows row = subst (AllByRecursion (IsRow width knows)) (sym made-is) (by found row)
    where
      by : (o : Option (Cells V)) → IfSome o (IsRow width knows) → AllByRecursion (IsRow width knows) (option_to_list o)
      by None is = tt
      by (Some r) is = (is, tt)

  pub nothing-made : {A : Type 0} (shown0 shown1 : V → Term) (width : ℕ) (keys : List ℕ) (variable : A → ℕ) (of : A → Cells Term → Option Term)
      (aggregate : A → List (Option Term) → Option Term) (aggregates : List A) (unbound : Cells V) → unbound ≡ row_by width (λ _. None)
      → option_map (shown_row shown1) found ≡ row_over shown0 width keys (group_row width (map variable aggregates) (map of aggregates) (map aggregate aggregates)) [] unbound
      → map (shown_row shown1) made ≡ grouped_by (λ a group. aggregate a (map (of a) group)) width keys (by_variable variable aggregates) []
  nothing-made {A} shown0 shown1 width keys variable of aggregate aggregates unbound unbound_is is =
      let row_of = group_row width (map variable aggregates) (map of aggregates) (map aggregate aggregates) in
      ap (map (shown_row shown1)) made-is ∙ shown-option (shown_row shown1) found ∙ ap option_to_list is
      ∙ sym (append-nil (option_to_list (row_over shown0 width keys row_of [] unbound))) ∙ first-over shown0 width keys row_of [] unbound []
      ∙ rows-valued shown0 width keys variable of aggregate aggregates [] (unbound ∷ [])
      ∙ ap (map (λ k. with_values (λ a group. aggregate a (map (of a) group)) width (by_variable variable aggregates) (group_of width keys [] k) k))
      (group-nothing width keys (shown_row shown0 unbound) (ap (shown_row shown0) unbound_is ∙ unbound-shown shown0 width))

module _ {V : Type 0} {test : V → V → Bool} (same : (x y : V) → Decides (test x y) (x ≡ y)) (net : List (Cells V × ℤ)) (befores afters : List (Cells V)) (none : befores ≡ [])
    (made : (x : Cells V) → weight (row_eq test) net x ≡ times (row_eq test) afters x +ℤ neg_ℤ (times (row_eq test) befores x)) where
  pub net-fits-from_nothing : (width : ℕ) (knows : V → Type 0) → AllByRecursion (IsRow width knows) afters → AnswersFit test width knows net
  net-fits-from_nothing width knows rows =
      net-fits same net [] afters (λ x. made x ∙ ap (λ xs. times (row_eq test) afters x +ℤ neg_ℤ (times (row_eq test) xs x)) none) width knows tt rows

  pub net-leads-from_nothing : (shown : V → Term) (whole : List (Cells Term)) → map (shown_row shown) afters ≡ whole → Leads shown [] net whole
  net-leads-from_nothing shown whole is q =
      let shows = net-shown same shown net befores afters made q in
      let one = ap (λ rows. times same_row rows q) is in
      let zero = ap (λ xs. times same_row (map (shown_row shown) xs) q) none in
      omega (arith, ints, shows, one, zero)
