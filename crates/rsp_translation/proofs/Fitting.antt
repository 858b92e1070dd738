-- A translation names places below its width alone.
use Rattle.std.proofs.Common.{◌≡◌, ℕ, zero, suc, ◌+◌, ◌-◌, ◌<◌, ◌≤◌, Bool, true, false, ◌&&◌, cond, List, [], ◌∷◌, ◌++◌, Option, None, Some, map, filter, fold, length, refl, sym, subst, arith}
use Rattle.std.specs.Prelude.{⊤}
use Rattle.std.specs.List.{AllByRecursion, range_with_len}
use Rattle.std.proofs.lemmas.List.FromFn.{length-map-range_with_len}
use Rattle.rsp_multiset.specs.Rows.{Cells}
use Rattle.rsp_terms.specs.declared.term.Term.{Term}
use Rattle.rsp_expr.specs.declared.slot.Slot.{Slot}
use Rattle.rsp_expr.specs.declared.slot.Slot.TheVariants as slot
use Rattle.rsp_expr.specs.Formulas.{Formula, Aggregation, formulas_in, conjunction}
use Rattle.rsp_query.specs.Paths.{Way, Ways, step, inverse, sequence, choice, no_way, way_then}
use Rattle.rsp_query.specs.Groups.{Item, Part, Parts, Groups, Selection, triple, optional, minus, union, graph, window, exists, bind, values, sub, no_part, part_then, no_group, group_then, selection}
use Rattle.rsp_query.specs.Groups as query
use Rattle.rsp_algebra.specs.declared.tree.Place.{Place}
use Rattle.rsp_algebra.specs.declared.tree.Place.TheVariants as place
use Rattle.rsp_algebra.specs.Nodes as node
use Rattle.rsp_algebra.specs.Nodes.{Node, formula_variables, place_variables, slot_variables, variables_of_all}
use Rattle.rsp_algebra.specs.Fitting.{AreBelow, AggregateFits, Fits, argument_variables, IsPlaced}
use Rattle.rsp_query.specs.Paths.{slashes, slashes_among as way_slashes_among, slashes_following}
use Rattle.rsp_translation.specs.Paths.{choices, end_of, from_left, path_node, steps}
use Rattle.rsp_translation.specs.Selects.{every_variable, projected, selected, with_distinct, with_groups, with_having, with_item, with_items}
use Rattle.rsp_shapes.specs.Sound.{GroupsAreSound, ItemIsBelow, PartIsSound, PartsAreSound, SelectionIsSound, WayIsBelow, WaysAreBelow}
use Rattle.rsp_query.specs.Queries.{Registered}
use Rattle.rsp_algebra.specs.declared.tree.Translated.{Translated}
use Rattle.rsp_shapes.specs.Sound.{IsSound}
use Rattle.rsp_translation.specs.Translation.{IsTranslated, setting_of, width_of}
use Rattle.rsp_translation.specs.Begun.{Begun, Setting, Test, closed, condition_of, filter_of, filtered, filters, finished, graph_place, group_node, group_nodes, joined, longer, nothing, select_node, slashes_among, slashes_in, slashes_of, slashes_within, tested, value_for, values_row, window_place, with_part, with_parts, with_run, with_test, with_tree, with_triple}
use Rattle.rsp_shapes.specs.Visible.{is_given, is_visible_in, name_of, variables_of}
use Rattle.rsp_translation.proofs.Clauses.{alone_is, select_is}

-- ---- lists of variables

both : {X : Type 0} (P : X → Type 0) (xs ys : List X) → AllByRecursion P xs → AllByRecursion P ys → AllByRecursion P (xs ++ ys)
both P [] ys left right = right
both P (x ∷ xs) ys left right = (left.0, both P xs ys left.1 right)

below : (n w : ℕ) → n ≤ w → (xs : List ℕ) → AreBelow n xs → AreBelow w xs
below n w wide [] all = tt
below n w wide (x ∷ xs) all = let first = all.0 in (omega (arith, first), below n w wide xs all.1)

one : (n w : ℕ) → n ≤ w → (x : ℕ) → x < n → x < w
one n w wide x h = omega arith

-- ---- paths

place_below : ℕ → Place → Type 0
place_below w at = AreBelow w (place_variables at)

slot_below : ℕ → Slot → Type 0
slot_below w s = AreBelow w (slot_variables s)

pattern_fits : (w : ℕ) (at : Place) (s p o : Slot) → AreBelow w (place_variables at) → AreBelow w (slot_variables s) → AreBelow w (slot_variables p) → AreBelow w (slot_variables o)
    → Fits w (node.pattern at (record { subject = s; predicate = p; object = o }))
pattern_fits w at s p o a b c d =
    both (λ v. v < w) (place_variables at) (slot_variables s ++ (slot_variables p ++ slot_variables o)) a
    (both (λ v. v < w) (slot_variables s) (slot_variables p ++ slot_variables o) b
    (both (λ v. v < w) (slot_variables p) (slot_variables o) c d))

joins_fit : (w : ℕ) (first : Node) (others : List Node) → Fits w first → AllByRecursion (Fits w) others → Fits w (fold (node.of_two node.join) first others)
joins_fit w first [] fits all = fits
joins_fit w first (next ∷ others) fits all = joins_fit w (node.of_two node.join first next) others (fits, all.0) all.1

unions_fit : (w : ℕ) (first : Node) (others : List Node) → Fits w first → AllByRecursion (Fits w) others → Fits w (fold (node.of_two node.union) first others)
unions_fit w first [] fits all = fits
unions_fit w first (next ∷ others) fits all = unions_fit w (node.of_two node.union first next) others (fits, all.0) all.1

joined_fit : (w : ℕ) (nodes : List Node) → AllByRecursion (Fits w) nodes → Fits w (from_left (node.of_two node.join) nodes)
joined_fit w [] all = tt
joined_fit w (first ∷ others) all = joins_fit w first others all.0 all.1

united_fit : (w : ℕ) (nodes : List Node) → AllByRecursion (Fits w) nodes → Fits w (from_left (node.of_two node.union) nodes)
united_fit w [] all = tt
united_fit w (first ∷ others) all = unions_fit w first others all.0 all.1

end_below : (w : ℕ) (o : Slot) (fresh sw : ℕ) (more : Ways) → AreBelow w (slot_variables o) → fresh + sw + slashes_following more ≤ w → AreBelow w (slot_variables (end_of o (fresh + sw) more))
end_below w o fresh sw no_way object room = object
end_below w o fresh sw (way_then way more) object room = (omega arith, tt)

mutual
  path_fits : (n w : ℕ) → n ≤ w → (at : Place) → AreBelow w (place_variables at) → (fresh : ℕ) (s : Slot) (way : Way) (o : Slot)
      → AreBelow w (slot_variables s) → WayIsBelow n way → AreBelow w (slot_variables o) → fresh + slashes way ≤ w → Fits w (path_node at fresh s way o)
  path_fits n w wide at a fresh s (step p) o subject verb object room =
      pattern_fits w at s p o a subject (below n w wide (slot_variables p) verb) object
  path_fits n w wide at a fresh s (inverse way) o subject verb object room =
      path_fits n w wide at a fresh o way s object verb subject room
  path_fits n w wide at a fresh s (sequence ways) o subject verb object room =
      joined_fit w (steps at fresh s ways o) (steps_fit n w wide at a fresh s ways o subject verb object room)
  path_fits n w wide at a fresh s (choice ways) o subject verb object room =
      united_fit w (choices at fresh s ways o) (choices_fit n w wide at a fresh s ways o subject verb object room)

  steps_fit : (n w : ℕ) → n ≤ w → (at : Place) → AreBelow w (place_variables at) → (fresh : ℕ) (s : Slot) (ways : Ways) (o : Slot)
      → AreBelow w (slot_variables s) → WaysAreBelow n ways → AreBelow w (slot_variables o) → fresh + (slashes_following ways - 1) ≤ w
      → AllByRecursion (Fits w) (steps at fresh s ways o)
  steps_fit n w wide at a fresh s no_way o subject verb object room = tt
  steps_fit n w wide at a fresh s (way_then way no_way) o subject verb object room =
      (path_fits n w wide at a fresh s way o subject verb.0 object (omega arith), tt)
  steps_fit n w wide at a fresh s (way_then way (way_then next more)) o subject verb object room = (
    path_fits n w wide at a fresh s way (slot.Variable (fresh + slashes way)) subject verb.0 (omega arith, tt) (omega arith),
    steps_fit n w wide at a (suc (fresh + slashes way)) (slot.Variable (fresh + slashes way)) (way_then next more) o (omega arith, tt) verb.1 object (omega arith),
  )

  choices_fit : (n w : ℕ) → n ≤ w → (at : Place) → AreBelow w (place_variables at) → (fresh : ℕ) (s : Slot) (ways : Ways) (o : Slot)
      → AreBelow w (slot_variables s) → WaysAreBelow n ways → AreBelow w (slot_variables o) → fresh + way_slashes_among ways ≤ w
      → AllByRecursion (Fits w) (choices at fresh s ways o)
  choices_fit n w wide at a fresh s no_way o subject verb object room = tt
  choices_fit n w wide at a fresh s (way_then way more) o subject verb object room = (
    path_fits n w wide at a fresh s way o subject verb.0 object (omega arith),
    choices_fit n w wide at a (fresh + slashes way) s more o subject verb.1 object (omega arith),
  )

-- ---- conditions

conditions_below : (w : ℕ) (formulas : List Formula) → AllByRecursion (λ f. AreBelow w (formula_variables f)) formulas → AreBelow w (variables_of_all (formulas_in formulas))
conditions_below w [] all = tt
conditions_below w (first ∷ others) all =
    both (λ v. v < w) (formula_variables first) (variables_of_all (formulas_in others)) all.0 (conditions_below w others all.1)

own_filters : (n w : ℕ) → n ≤ w → (part : Part) → PartIsSound n part → AllByRecursion (λ f. AreBelow w (formula_variables f)) (filter_of part)
own_filters n w wide (query.filter condition) sound = (below n w wide (formula_variables condition) sound, tt)
own_filters n w wide (triple s v o) sound = tt
own_filters n w wide (optional body) sound = tt
own_filters n w wide (minus body) sound = tt
own_filters n w wide (union groups) sound = tt
own_filters n w wide (graph name at body) sound = tt
own_filters n w wide (window name at body) sound = tt
own_filters n w wide (exists negated at body) sound = tt
own_filters n w wide (bind v formula) sound = tt
own_filters n w wide (values variables rows) sound = tt
own_filters n w wide (sub inner) sound = tt

filters_below : (n w : ℕ) → n ≤ w → (body : Parts) → PartsAreSound n body → AllByRecursion (λ f. AreBelow w (formula_variables f)) (filters body)
filters_below n w wide no_part sound = tt
filters_below n w wide (part_then part more) sound =
    both (λ f. AreBelow w (formula_variables f)) (filter_of part) (filters more) (own_filters n w wide part sound.0) (filters_below n w wide more sound.1)

condition_below : (n w : ℕ) → n ≤ w → (body : Parts) → PartsAreSound n body → AreBelow w (formula_variables (condition_of body))
condition_below n w wide body sound = conditions_below w (filters body) (filters_below n w wide body sound)

filtered_fits : (w : ℕ) (formulas : List Formula) (tree : Node) → AllByRecursion (λ f. AreBelow w (formula_variables f)) formulas → Fits w tree → Fits w (filtered formulas tree)
filtered_fits w [] tree all fits = fits
filtered_fits w (first ∷ others) tree all fits = (conditions_below w (first ∷ others) all, fits)

-- ---- groups so far

abbrev TestFits : ℕ → Test → Type 0
TestFits w test = Fits w test.tree × AreBelow w (formula_variables test.condition)

abbrev RunFits : ℕ → Option Node → Type 0
RunFits w None = ⊤
RunFits w (Some run) = Fits w run

abbrev BegunFits : ℕ → Begun → Type 0
BegunFits w group = Fits w group.tree × (RunFits w group.run × AllByRecursion (TestFits w) group.tests)

join_fits : (w : ℕ) (left right : Node) → Fits w left → Fits w right → Fits w (joined left right)
join_fits w node.unit right a b = b
join_fits w (node.pattern at t) right a b = (a, b)
join_fits w (node.of_two node.join x y) right a b = (a, b)
join_fits w (node.of_two (node.left_join c) x y) right a b = (a, b)
join_fits w (node.of_two node.union x y) right a b = (a, b)
join_fits w (node.of_two node.minus x y) right a b = (a, b)
join_fits w (node.of_two (node.exists c) x y) right a b = (a, b)
join_fits w (node.of_two (node.not_exists c) x y) right a b = (a, b)
join_fits w (node.over (node.filter c) x) right a b = (a, b)
join_fits w (node.over (node.extend v f) x) right a b = (a, b)
join_fits w (node.values rows) right a b = (a, b)
join_fits w (node.over (node.project vs) x) right a b = (a, b)
join_fits w (node.over node.distinct x) right a b = (a, b)
join_fits w (node.over (node.group keys aggregates) x) right a b = (a, b)

run_fits : (w : ℕ) (tree : Node) (run : Option Node) → Fits w tree → RunFits w run → Fits w (with_run tree run)
run_fits w tree None a b = a
run_fits w tree (Some run) a b = join_fits w tree run a b

closed_fits : (w : ℕ) (group : Begun) → BegunFits w group → Fits w (closed group)
closed_fits w group fits = run_fits w group.tree group.run fits.0 fits.1.0

longer_fits : (w : ℕ) (run : Option Node) (part : Node) → RunFits w run → Fits w part → Fits w (longer run part)
longer_fits w None part a b = b
longer_fits w (Some run) part a b = (a, b)

tree_fits : (w : ℕ) (group : Begun) (tree : Node) → BegunFits w group → Fits w tree → BegunFits w (with_tree group tree)
tree_fits w group tree fits new = (new, (tt, fits.1.1))

with_test_fits : (w : ℕ) (group : Begun) (test : Test) → BegunFits w group → TestFits w test → BegunFits w (with_test group test)
with_test_fits w group test fits new = (fits.0, (fits.1.0, both (TestFits w) group.tests (test ∷ []) fits.1.1 (new, tt)))

test_fits : (w : ℕ) (tree : Node) (negated : Bool) (right : Node) (condition : Formula) → Fits w tree → Fits w right → AreBelow w (formula_variables condition)
    → Fits w (tested tree (record { negated = negated; tree = right; condition = condition }))
test_fits w tree true right condition a b c = (c, (a, b))
test_fits w tree false right condition a b c = (c, (a, b))

tests_fit : (w : ℕ) (tree : Node) (tests : List Test) → Fits w tree → AllByRecursion (TestFits w) tests → Fits w (fold tested tree tests)
tests_fit w tree [] fits all = fits
tests_fit w tree (test ∷ more) fits all =
    tests_fit w (tested tree test) more (test_fits w tree test.negated test.tree test.condition fits all.0.0 all.0.1) all.1

finished_fits : (n w : ℕ) → n ≤ w → (body : Parts) → PartsAreSound n body → (group : Begun) → BegunFits w group → Fits w (finished body group)
finished_fits n w wide body sound group fits =
    tests_fit w (filtered (filters body) (closed group)) group.tests
    (filtered_fits w (filters body) (closed group) (filters_below n w wide body sound) (closed_fits w group fits)) fits.1.1

graph_below : (n w : ℕ) → n ≤ w → (name : Slot) → AreBelow n (slot_variables name) → AreBelow w (place_variables (graph_place name))
graph_below n w wide (slot.Variable v) sound = (let h = sound.0 in omega (arith, h), tt)
graph_below n w wide (slot.Constant name) sound = tt

rows_fit : (w : ℕ) (variables : List ℕ) (rows : List (List (Option Term))) → AllByRecursion (λ (row : Cells Term). length row ≡ w) (map (values_row w variables) rows)
rows_fit w variables [] = tt
rows_fit w variables (row ∷ more) = (length-map-range_with_len (value_for variables row) 0 w, rows_fit w variables more)

-- ---- SELECTs

items_fit : (n w : ℕ) → n ≤ w → (tree : Node) (items : List Item) → AllByRecursion (ItemIsBelow n) items → Fits w tree → Fits w (with_items tree items)
items_fit n w wide tree [] sound fits = fits
items_fit n w wide tree (item ∷ more) sound fits =
    items_fit n w wide (with_item tree item.variable item.formula) more sound.1 (item_fits item.variable item.formula sound.0.0 sound.0.1)
  where
    item_fits : (v : ℕ) (formula : Option Formula) → v < n → AreBelow n (argument_variables formula) → Fits w (with_item tree v formula)
    item_fits v None h all = fits
    item_fits v (Some formula) h all = (omega arith, (below n w wide (formula_variables formula) all, fits))

variables_below : (n w : ℕ) → n ≤ w → (items : List Item) → AllByRecursion (ItemIsBelow n) items → AreBelow w (variables_of items)
variables_below n w wide [] sound = tt
variables_below n w wide (item ∷ more) sound =
    let h = sound.0.0 in (omega (arith, h), variables_below n w wide more sound.1)

aggregates_fit : (n w : ℕ) → n ≤ w → (aggregates : List (ℕ × Aggregation)) → AllByRecursion (AggregateFits n) aggregates → AllByRecursion (AggregateFits w) aggregates
aggregates_fit n w wide [] sound = tt
aggregates_fit n w wide ((v, aggregation) ∷ more) sound =
    let h = sound.0.0 in
    ((omega (arith, h), (below n w wide (argument_variables aggregation.argument) sound.0.1.0, sound.0.1.1)), aggregates_fit n w wide more sound.1)

groups_fit : (n w : ℕ) → n ≤ w → (grouped : Bool) (keys : List Item) (aggregates : List (ℕ × Aggregation)) (tree : Node)
    → AllByRecursion (ItemIsBelow n) keys → AllByRecursion (AggregateFits n) aggregates → Fits w tree → Fits w (with_groups grouped keys aggregates tree)
groups_fit n w wide true keys aggregates tree sound forms fits =
    (variables_below n w wide keys sound, (aggregates_fit n w wide aggregates forms, fits))
groups_fit n w wide false keys aggregates tree sound forms fits = fits

having_fits : (n w : ℕ) → n ≤ w → (having : Option Formula) (tree : Node) → AreBelow n (argument_variables having) → Fits w tree → Fits w (with_having having tree)
having_fits n w wide None tree sound fits = fits
having_fits n w wide (Some condition) tree sound fits = (below n w wide (formula_variables condition) sound, fits)

distinct_fits : (w : ℕ) (distinct : Bool) (tree : Node) → Fits w tree → Fits w (with_distinct distinct tree)
distinct_fits w true tree fits = fits
distinct_fits w false tree fits = fits

kept_below : (w : ℕ) (p : ℕ → Bool) (xs : List ℕ) → AreBelow w xs → AreBelow w (filter p xs)
kept_below w p [] all = tt
kept_below w p (x ∷ xs) all = by (p x) (kept_below w p xs all.1)
  where
    by : (b : Bool) → AreBelow w (filter p xs) → AreBelow w (cond b (x ∷ filter p xs) (filter p xs))
    by true rest = (all.0, rest)
    by false rest = rest

range_below : (w from n : ℕ) → from + n ≤ w → AreBelow w (range_with_len from n)
range_below w from zero h = tt
range_below w from (suc n) h = (omega arith, range_below w (from + 1) n (omega arith))

pub projected_below : (n w : ℕ) → n ≤ w → (names : List (List ℕ)) → length names ≡ n → (s : Selection) → SelectionIsSound n s → AreBelow w (projected names s)
projected_below n w wide names count (selection distinct star items body grouped keys having aggregates) sound =
    by star
  where
    by : (b : Bool) → AreBelow w (cond b (every_variable names body) (variables_of items))
    by true =
        kept_below w (λ v. is_given (name_of names v) && is_visible_in names body v) (range_with_len 0 (length names))
        (range_below w 0 (length names) (omega arith))
    by false = variables_below n w wide items sound.0

selected_fits : (n w : ℕ) → n ≤ w → (names : List (List ℕ)) → length names ≡ n → (s : Selection) → SelectionIsSound n s → (tree : Node) → Fits w tree → Fits w (selected names s tree)
selected_fits n w wide names count (selection distinct star items body grouped keys having aggregates) sound tree fits =
    distinct_fits w distinct _ (
      projected_below n w wide names count (selection distinct star items body grouped keys having aggregates) sound,
      items_fit n w wide _ items sound.0
          (having_fits n w wide having _ sound.1.1.1.0
          (groups_fit n w wide grouped keys aggregates _ sound.1.1.0 sound.1.1.1.1
          (items_fit n w wide tree keys sound.1.1.0 fits))),
    )

-- ---- groups

nothing_fits : (w : ℕ) → BegunFits w nothing
nothing_fits w = (tt, (tt, tt))

mutual
  part_fits : (n w : ℕ) → n ≤ w → (s : Setting) → s.width ≡ w → length s.names ≡ n → (at : Place) → AreBelow w (place_variables at)
      → (fresh : ℕ) (group : Begun) (part : Part) → PartIsSound n part → fresh + slashes_of part ≤ w → BegunFits w group → BegunFits w (with_part s at fresh group part)
  part_fits n w wide s width count at a fresh group (triple subject verb object) sound room fits = (
    fits.0,
    (
      longer_fits w group.run (path_node at fresh subject verb object) fits.1.0
          (path_fits n w wide at a fresh subject verb object (below n w wide (slot_variables subject) sound.0) sound.1.0
          (below n w wide (slot_variables object) sound.1.1) room),
      fits.1.1,
    ),
  )
  part_fits n w wide s width count at a fresh group (query.filter condition) sound room fits = fits
  part_fits n w wide s width count at a fresh group (exists negated word body) sound room fits =
      let inner = parts_fit n w wide s width count at a fresh nothing body sound room (nothing_fits w) in
      with_test_fits w group
      (record { negated = negated; tree = closed (with_parts s at fresh nothing body); condition = condition_of body })
      fits
      (closed_fits w (with_parts s at fresh nothing body) inner, condition_below n w wide body sound)
  part_fits n w wide s width count at a fresh group (optional body) sound room fits =
      let inner = parts_fit n w wide s width count at a fresh nothing body sound room (nothing_fits w) in
      tree_fits w group
      (node.of_two (node.left_join (condition_of body)) (closed group) (closed (with_parts s at fresh nothing body))) fits
      (condition_below n w wide body sound, (closed_fits w group fits, closed_fits w (with_parts s at fresh nothing body) inner))
  part_fits n w wide s width count at a fresh group (minus body) sound room fits =
      let inner = parts_fit n w wide s width count at a fresh nothing body sound room (nothing_fits w) in
      tree_fits w group (node.of_two node.minus (closed group) (finished body (with_parts s at fresh nothing body))) fits
      (closed_fits w group fits, finished_fits n w wide body sound (with_parts s at fresh nothing body) inner)
  part_fits n w wide s width count at a fresh group (union groups) sound room fits =
      tree_fits w group (joined (closed group) (from_left (node.of_two node.union) (group_nodes s at fresh groups))) fits
      (join_fits w (closed group) (from_left (node.of_two node.union) (group_nodes s at fresh groups)) (closed_fits w group fits)
      (united_fit w (group_nodes s at fresh groups) (branches_fit n w wide s width count at a fresh groups sound room)))
  part_fits n w wide s width count at a fresh group (graph name word body) sound room fits =
      let inner =
      parts_fit n w wide s width count (graph_place name) (graph_below n w wide name sound.0) fresh nothing body sound.1 room (nothing_fits w) in
      tree_fits w group (joined (closed group) (finished body (with_parts s (graph_place name) fresh nothing body))) fits
      (join_fits w (closed group) (finished body (with_parts s (graph_place name) fresh nothing body)) (closed_fits w group fits)
      (finished_fits n w wide body sound.1 (with_parts s (graph_place name) fresh nothing body) inner))
  part_fits n w wide s width count at a fresh group (window name word body) sound room fits =
      let inner = parts_fit n w wide s width count (window_place s.windows name) tt fresh nothing body sound room (nothing_fits w) in
      tree_fits w group (joined (closed group) (finished body (with_parts s (window_place s.windows name) fresh nothing body))) fits
      (join_fits w (closed group) (finished body (with_parts s (window_place s.windows name) fresh nothing body)) (closed_fits w group fits)
      (finished_fits n w wide body sound (with_parts s (window_place s.windows name) fresh nothing body) inner))
  part_fits n w wide s width count at a fresh group (bind v formula) sound room fits =
      tree_fits w group (node.over (node.extend v formula) (closed group)) fits
      (one n w wide v sound.0, (below n w wide (formula_variables formula) sound.1, closed_fits w group fits))
  part_fits n w wide s width count at a fresh group (values variables rows) sound room fits =
      tree_fits w group (joined (closed group) (node.values (map (values_row s.width variables) rows))) fits
      (join_fits w (closed group) (node.values (map (values_row s.width variables) rows)) (closed_fits w group fits)
      (subst (λ k. AllByRecursion (λ (row : Cells Term). length row ≡ k) (map (values_row s.width variables) rows)) width (rows_fit s.width variables rows)))
  part_fits n w wide s width count at a fresh group (sub inner) sound room fits =
      tree_fits w group (joined (closed group) (select_node s at fresh inner)) fits
      (join_fits w (closed group) (select_node s at fresh inner) (closed_fits w group fits) (select_fits n w wide s width count at a fresh inner sound room))

  parts_fit : (n w : ℕ) → n ≤ w → (s : Setting) → s.width ≡ w → length s.names ≡ n → (at : Place) → AreBelow w (place_variables at)
      → (fresh : ℕ) (group : Begun) (parts : Parts) → PartsAreSound n parts → fresh + slashes_in parts ≤ w → BegunFits w group → BegunFits w (with_parts s at fresh group parts)
  parts_fit n w wide s width count at a fresh group no_part sound room fits = fits
  parts_fit n w wide s width count at a fresh group (part_then part more) sound room fits =
      parts_fit n w wide s width count at a (fresh + slashes_of part) (with_part s at fresh group part) more sound.1 (omega arith)
      (part_fits n w wide s width count at a fresh group part sound.0 (omega arith) fits)

  branches_fit : (n w : ℕ) → n ≤ w → (s : Setting) → s.width ≡ w → length s.names ≡ n → (at : Place) → AreBelow w (place_variables at)
      → (fresh : ℕ) (groups : Groups) → GroupsAreSound n groups → fresh + slashes_among groups ≤ w → AllByRecursion (Fits w) (group_nodes s at fresh groups)
  branches_fit n w wide s width count at a fresh no_group sound room = tt
  branches_fit n w wide s width count at a fresh (group_then body more) sound room = (
    finished_fits n w wide body sound.0 (with_parts s at fresh nothing body)
        (parts_fit n w wide s width count at a fresh nothing body sound.0 (omega arith) (nothing_fits w)),
    branches_fit n w wide s width count at a (fresh + slashes_in body) more sound.1 (omega arith),
  )

  pub select_fits : (n w : ℕ) → n ≤ w → (s : Setting) → s.width ≡ w → length s.names ≡ n → (at : Place) → AreBelow w (place_variables at)
      → (fresh : ℕ) (select : Selection) → SelectionIsSound n select → fresh + slashes_within select ≤ w → Fits w (select_node s at fresh select)
  select_fits n w wide s width count at a fresh (selection distinct star items body grouped keys having aggregates) sound room =
      selected_fits n w wide s.names count (selection distinct star items body grouped keys having aggregates) sound _
      (finished_fits n w wide body sound.1.0 (with_parts s at fresh nothing body)
      (parts_fit n w wide s width count at a fresh nothing body sound.1.0 room (nothing_fits w)))

pub placed : (q : Registered) (made : Translated) → IsSound q → IsTranslated q made → IsPlaced made
placed q made sound is =
    let counted = alone_is (sub q.selection) in
    record {
      tree = rw (is.width, is.tree, select_is (setting_of q) place.Default (length q.variables) q.selection)
          (select_fits (length q.variables) (width_of q) (omega arith) (setting_of q) refl refl place.Default tt (length q.variables) q.selection sound (omega (arith, counted)));
      shown = rw (is.width, is.shown) (projected_below (length q.variables) (width_of q) (omega arith) q.variables refl q.selection sound);
    }
