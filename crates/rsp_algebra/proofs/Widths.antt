-- Each row of a tree has a cell for each variable below the width.
use Rattle.std.proofs.Common.{◌≡◌, ℕ, suc, Bool, true, false, not, cond, Option, None, List, [], ◌∷◌, ◌++◌, map, filter, length, refl, sym, ◌∙◌, ap, arith}
use Rattle.std.specs.Bool.{then_some}
use Rattle.std.specs.List.{AllByRecursion, filter_map, cons_option}
use Rattle.std.proofs.lemmas.List.FromFn.{length-map-range_with_len}
use Rattle.rsp_multiset.specs.RowLists.{merged_pair, merged_pairs, has_partner, without_partner, each_once}
use Rattle.rsp_multiset.specs.Rows.{Cells, compatible, merge}
use Rattle.rsp_terms.specs.declared.term.Term.{Term}
use Rattle.rsp_terms.specs.declared.statement.Fact.{Fact}
use Rattle.rsp_algebra.specs.declared.tree.Place.{Place}
use Rattle.rsp_algebra.specs.declared.tree.TriplePattern.{TriplePattern}
use Rattle.rsp_terms.specs.Same.{term_eq}
use Rattle.rsp_expr.specs.Formulas.{Formula, Aggregation}
use Rattle.rsp_expr.specs.Aggregates.{aggregate_value}
use Rattle.rsp_expr.specs.Values.{truth}
use Rattle.rsp_algebra.specs.Nodes as node
use Rattle.rsp_algebra.specs.Nodes.{Node}
use Rattle.rsp_algebra.specs.Fitting.{Fits}
use Rattle.rsp_algebra.specs.Patterns.{row_by, is_instance, binding, solution}
use Rattle.rsp_algebra.specs.Solutions.{same_row, pass_together, takes_away, projection, extension, extended_by, group_keys, group_of, with_aggregates, eval}

-- each row has so many cells
abbrev pub AllHave : ℕ → List (Cells Term) → Type 0
AllHave width rows = AllByRecursion (λ row. length row ≡ width) rows

pub row_by-length : (width : ℕ) (f : ℕ → Option Term) → length (row_by width f) ≡ width
row_by-length width f = length-map-range_with_len f 0 width

pub merged-length : (left right : Cells Term) → length left ≡ length right → length (merge left right) ≡ length left
merged-length [] right same = refl
merged-length (x ∷ left) [] same =
    let never : ⊥ = omega (arith, same) in
    absurd never
merged-length (x ∷ left) (y ∷ right) same =
    let rest : length left ≡ length right = omega (arith, same) in
    ap suc (merged-length left right rest)

solutions-length : (width : ℕ) (place : Place) (triple : TriplePattern) (facts : List Fact) → AllHave width (filter_map (solution width place triple) facts)
solutions-length width place triple [] = tt
solutions-length width place triple (fact ∷ facts) =
    by (is_instance (row_by width (binding place triple fact)) place triple fact) (solutions-length width place triple facts)
  where
    by : (b : Bool) → AllHave width (filter_map (solution width place triple) facts) → AllHave width (cons_option (then_some b (row_by width (binding place triple fact))) (filter_map (solution width place triple) facts))
    by true rest = (row_by-length width (binding place triple fact), rest)
    by false rest = rest

pub all-append : {X : Type 0} (P : X → Type 0) (xs ys : List X) → AllByRecursion P xs → AllByRecursion P ys → AllByRecursion P (xs ++ ys)
all-append P [] ys left right = right
all-append P (x ∷ xs) ys left right = (left.0, all-append P xs ys left.1 right)

-- rows of one width merge to rows of that width
paired-length : (width : ℕ) (test : Cells Term → Cells Term → Bool) (left : Cells Term) (rights : List (Cells Term)) → length left ≡ width → AllHave width rights → AllHave width (filter_map (merged_pair test left) rights)
paired-length width test left [] long all = tt
paired-length width test left (right ∷ rights) long all =
    by (test left right) (paired-length width test left rights long all.1)
  where
    by : (b : Bool) → AllHave width (filter_map (merged_pair test left) rights) → AllHave width (cons_option (then_some b (merge left right)) (filter_map (merged_pair test left) rights))
    by true rest = (merged-length left right (long ∙ sym all.0) ∙ long, rest)
    by false rest = rest

pub pairs-length : (width : ℕ) (test : Cells Term → Cells Term → Bool) (lefts rights : List (Cells Term)) → AllHave width lefts → AllHave width rights → AllHave width (merged_pairs test lefts rights)
pairs-length width test [] rights left_all all = tt
pairs-length width test (left ∷ lefts) rights left_all all =
    all-append (λ row. length row ≡ width) (filter_map (merged_pair test left) rights) (merged_pairs test lefts rights) (paired-length width test left rights left_all.0 all) (pairs-length width test lefts rights left_all.1 all)

-- what holds of all elements holds of those that are left by a filter
pub all-filter : {X : Type 0} (P : X → Type 0) (test : X → Bool) (xs : List X) → AllByRecursion P xs → AllByRecursion P (filter test xs)
all-filter P test [] all = tt
all-filter P test (x ∷ xs) all = by (test x) (all-filter P test xs all.1)
  where
    by : (b : Bool) → AllByRecursion P (filter test xs) → AllByRecursion P (cond b (x ∷ filter test xs) (filter test xs))
    by true rest = (all.0, rest)
    by false rest = rest

-- rows that are chosen by their partners
without-length : (width : ℕ) (test : Cells Term → Cells Term → Bool) (lefts rights : List (Cells Term)) → AllHave width lefts → AllHave width (without_partner test lefts rights)
without-length width test lefts rights all =
    all-filter (λ row. length row ≡ width) (λ left. not (has_partner test rights left)) lefts all

all-once : {X : Type 0} (P : X → Type 0) (eq : X → X → Bool) (xs : List X) → AllByRecursion P xs → AllByRecursion P (each_once eq xs)
all-once P eq [] all = tt
all-once P eq (x ∷ xs) all = (all.0, all-filter P (λ y. not (eq x y)) (each_once eq xs) (all-once P eq xs all.1))

projected-length : (width : ℕ) (variables : List ℕ) (rows : List (Cells Term)) → AllHave width (map (projection width variables) rows)
projected-length width variables [] = tt
projected-length width variables (row ∷ rows) = (row_by-length width _, projected-length width variables rows)

extended-length : (width variable : ℕ) (formula : Formula) (rows : List (Cells Term)) → AllHave width (map (extended_by width variable formula) rows)
extended-length width variable formula [] = tt
extended-length width variable formula (row ∷ rows) = (row_by-length width _, extended-length width variable formula rows)

keys-length : (width : ℕ) (keys : List ℕ) (rows : List (Cells Term)) → AllHave width (group_keys width keys rows)
keys-length width [] rows = (row_by-length width (λ _. None), tt)
keys-length width (key ∷ keys) rows =
    all-once (λ row. length row ≡ width) same_row (map (projection width (key ∷ keys)) rows) (projected-length width (key ∷ keys) rows)

pub aggregates-length : (width : ℕ) (aggregates : List (ℕ × Aggregation)) (rows : List (Cells Term)) (key : Cells Term) → length key ≡ width → length (with_aggregates width aggregates rows key) ≡ width
aggregates-length width [] rows key long = long
aggregates-length width (aggregate ∷ aggregates) rows key long =
    aggregates-length width aggregates rows (extension width aggregate.0 (aggregate_value aggregate.1 rows) key) (row_by-length width _)

grouped-length : (width : ℕ) (aggregates : List (ℕ × Aggregation)) (group : Cells Term → List (Cells Term)) (keys : List (Cells Term)) → AllHave width keys → AllHave width (map (λ key. with_aggregates width aggregates (group key) key) keys)
grouped-length width aggregates group [] all = tt
grouped-length width aggregates group (key ∷ keys) all =
    (aggregates-length width aggregates (group key) key all.0, grouped-length width aggregates group keys all.1)

pub eval-length : (width : ℕ) (tree : Node) (facts : List Fact) → Fits width tree → AllHave width (eval width tree facts)
eval-length width node.unit facts fits = (row_by-length width (λ _. None), tt)
eval-length width (node.pattern place triple) facts fits = solutions-length width place triple facts
eval-length width (node.of_two node.join left right) facts fits =
    pairs-length width (compatible term_eq) (eval width left facts) (eval width right facts) (eval-length width left facts fits.0) (eval-length width right facts fits.1)
eval-length width (node.of_two (node.left_join condition) left right) facts fits =
    all-append (λ row. length row ≡ width)
    (merged_pairs (pass_together condition) (eval width left facts) (eval width right facts))
    (without_partner (pass_together condition) (eval width left facts) (eval width right facts))
    (pairs-length width (pass_together condition) (eval width left facts) (eval width right facts) (eval-length width left facts fits.1.0) (eval-length width right facts fits.1.1))
    (without-length width (pass_together condition) (eval width left facts) (eval width right facts) (eval-length width left facts fits.1.0))
eval-length width (node.of_two node.union left right) facts fits =
    all-append (λ row. length row ≡ width) (eval width left facts) (eval width right facts) (eval-length width left facts fits.0) (eval-length width right facts fits.1)
eval-length width (node.of_two node.minus left right) facts fits =
    without-length width takes_away (eval width left facts) (eval width right facts) (eval-length width left facts fits.0)
eval-length width (node.of_two (node.exists condition) left right) facts fits =
    all-filter (λ row. length row ≡ width) (has_partner (pass_together condition) (eval width right facts)) (eval width left facts) (eval-length width left facts fits.1.0)
eval-length width (node.of_two (node.not_exists condition) left right) facts fits =
    without-length width (pass_together condition) (eval width left facts) (eval width right facts) (eval-length width left facts fits.1.0)
eval-length width (node.over (node.filter condition) child) facts fits =
    all-filter (λ row. length row ≡ width) (truth condition) (eval width child facts) (eval-length width child facts fits.1)
eval-length width (node.over (node.extend variable formula) child) facts fits = extended-length width variable formula (eval width child facts)
eval-length width (node.values rows) facts fits = fits
eval-length width (node.over (node.project variables) child) facts fits = projected-length width variables (eval width child facts)
eval-length width (node.over node.distinct child) facts fits =
    all-once (λ row. length row ≡ width) same_row (eval width child facts) (eval-length width child facts fits)
eval-length width (node.over (node.group keys aggregates) child) facts fits =
    grouped-length width aggregates (group_of width keys (eval width child facts)) (group_keys width keys (eval width child facts)) (keys-length width keys (eval width child facts))
