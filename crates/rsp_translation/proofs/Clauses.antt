-- The tree that is built part by part is the tree of the group's clauses.
use Rattle.std.proofs.Common.{◌≡◌, ◌∙◌, ℕ, ◌+◌, Bool, true, false, cond, List, [], ◌∷◌, ◌++◌, map, refl, sym, ap, arith, Option, Some, None, Result, Ok, Err}
use Rattle.std.specs.Prelude.{IfOk}
use Rattle.std.specs.List.{fold}
use Rattle.rsp_expr.specs.Formulas.{Formula, formulas_in, conjunction}
use Rattle.rsp_query.specs.Groups.{Part, Parts, Groups, Selection, triple, optional, minus, union, graph, window, filter, exists, bind, values, sub, no_part, part_then, no_group, group_then, selection}
use Rattle.rsp_query.specs.Walks.{own_slashes, slashes_in}
use Rattle.rsp_query.specs.Counts.{counted_below, counted_group, counted_groups}
use Rattle.rsp_query.proofs.Counted.{counted_is}
use Rattle.rsp_algebra.specs.declared.tree.Place.{Place}
use Rattle.rsp_algebra.specs.Nodes as node
use Rattle.rsp_algebra.specs.Nodes.{Node}
use Rattle.rsp_translation.specs.Paths.{from_left, path_node}
use Rattle.rsp_translation.specs.Selects.{selected}
use Rattle.rsp_translation.specs.Trees.{Setting, graph_place, window_place, values_row, Clause, joined, with_run, built, elements, filters_in, condition, filtered, tested_by, group, clauses, group_nodes, select_node}
use Rattle.rsp_translation.specs.Begun as begun
use Rattle.rsp_translation.specs.Begun.{Begun, Test}
use Rattle.rsp_translation.specs.Building.{tests_in}
use Rattle.rsp_translation.proofs.Building.{tests_parts}

-- ---- the `/` of a part

mutual
  part_slashes : (part : Part) → begun.slashes_of part ≡ own_slashes part + counted_below own_slashes part
  part_slashes (triple subject verb object) = omega arith
  part_slashes (optional body) = let inner = group_slashes body in omega (arith, inner)
  part_slashes (minus body) = let inner = group_slashes body in omega (arith, inner)
  part_slashes (union groups) = let inner = groups_slashes groups in omega (arith, inner)
  part_slashes (graph name at body) = let inner = group_slashes body in omega (arith, inner)
  part_slashes (window name at body) = let inner = group_slashes body in omega (arith, inner)
  part_slashes (filter formula) = omega arith
  part_slashes (exists negated at body) = let inner = group_slashes body in omega (arith, inner)
  part_slashes (bind v formula) = omega arith
  part_slashes (values variables rows) = omega arith
  part_slashes (sub (selection distinct star items body grouped keys having aggregates)) = let inner = group_slashes body in omega (arith, inner)

  group_slashes : (body : Parts) → begun.slashes_in body ≡ counted_group own_slashes body
  group_slashes no_part = refl
  group_slashes (part_then part more) =
      let here = part_slashes part in
      let behind = group_slashes more in
      omega (arith, here, behind)

  groups_slashes : (groups : Groups) → begun.slashes_among groups ≡ counted_groups own_slashes groups
  groups_slashes no_group = refl
  groups_slashes (group_then body more) =
      let here = group_slashes body in
      let behind = groups_slashes more in
      omega (arith, here, behind)

abbrev pub alone : Part → ℕ
alone part = slashes_in (part_then part no_part)

pub alone_is : (part : Part) → alone part ≡ begun.slashes_of part
alone_is part =
    let all = counted_is own_slashes (part_then part no_part) in
    let here = part_slashes part in
    omega (arith, all, here)

pub slashes_are : (body : Parts) → slashes_in body ≡ begun.slashes_in body
slashes_are body = counted_is own_slashes body ∙ sym (group_slashes body)

-- ---- runs

abbrev run_of : List Node → Option Node
run_of [] = None
run_of (first ∷ others) = Some (fold (node.of_two node.join) first others)

run_is : (tree : Node) (run : List Node) → with_run tree run ≡ begun.with_run tree (run_of run)
run_is tree [] = refl
run_is tree (first ∷ others) = refl

fold_more : (first : Node) (others : List Node) (next : Node)
    → fold (node.of_two node.join) first (others ++ (next ∷ [])) ≡ node.of_two node.join (fold (node.of_two node.join) first others) next
fold_more first [] next = refl
fold_more first (x ∷ others) next = fold_more (node.of_two node.join first x) others next

longer_is : (run : List Node) (next : Node) → run_of (run ++ (next ∷ [])) ≡ Some (begun.longer (run_of run) next)
longer_is [] next = refl
longer_is (first ∷ others) next = ap (λ n. Some n) (fold_more first others next)

-- ---- filters

filters_are : (s : Setting) (at : Place) (fresh : ℕ) (body : Parts) → filters_in (clauses s at fresh body) ≡ begun.filters body
filters_are s at fresh no_part = refl
filters_are s at fresh (part_then (triple subject verb object) more) = filters_are s at (fresh + alone (triple subject verb object)) more
filters_are s at fresh (part_then (optional body) more) = filters_are s at (fresh + alone (optional body)) more
filters_are s at fresh (part_then (minus body) more) = filters_are s at (fresh + alone (minus body)) more
filters_are s at fresh (part_then (union groups) more) = filters_are s at (fresh + alone (union groups)) more
filters_are s at fresh (part_then (graph name word body) more) = filters_are s at (fresh + alone (graph name word body)) more
filters_are s at fresh (part_then (window name word body) more) = filters_are s at (fresh + alone (window name word body)) more
filters_are s at fresh (part_then (filter formula) more) =
    ap (λ fs. formula ∷ fs) (filters_are s at (fresh + alone (filter formula)) more)
filters_are s at fresh (part_then (exists negated word body) more) = filters_are s at (fresh + alone (exists negated word body)) more
filters_are s at fresh (part_then (bind v formula) more) = filters_are s at (fresh + alone (bind v formula)) more
filters_are s at fresh (part_then (values variables rows) more) = filters_are s at (fresh + alone (values variables rows)) more
filters_are s at fresh (part_then (sub inner) more) = filters_are s at (fresh + alone (sub inner)) more

condition_is : (s : Setting) (at : Place) (fresh : ℕ) (body : Parts) → condition (clauses s at fresh body) ≡ begun.condition_of body
condition_is s at fresh body = ap (λ fs. conjunction (formulas_in fs)) (filters_are s at fresh body)

-- ---- groups

abbrev so_far : Node → List Node → List Test → Begun
so_far tree run tests = record { tree = tree; run = run_of run; tests = tests }

abbrev ended : Node → List Test → Begun
ended tree tests = record { tree = tree; run = None; tests = tests }

both : (f : Node → Node → Node) (a b x y : Node) → a ≡ x → b ≡ y → f a b ≡ f x y
both f a b x y left right = rw (left, right) refl

-- behind a part, the `/` are counted alike
next : (s : Setting) (at : Place) (fresh : ℕ) (part : Part) (more : Parts) (group : Begun)
    → begun.closed (begun.with_parts s at (fresh + alone part) group more)
    ≡ begun.closed (begun.with_parts s at (fresh + begun.slashes_of part) group more)
next s at fresh part more group = ap (λ n. begun.closed (begun.with_parts s at (fresh + n) group more)) (alone_is part)

-- behind an element that ends a run
after : (s : Setting) (at : Place) (fresh : ℕ) (part : Part) (more : Parts) (made tree new : Node) (tests : List Test)
    → made ≡ begun.closed (begun.with_parts s at (fresh + alone part) (so_far tree [] tests) more) → tree ≡ new
    → made ≡ begun.closed (begun.with_parts s at (fresh + begun.slashes_of part) (ended new tests) more)
after s at fresh part more made tree new tests is same =
    is
    ∙ (ap (λ t. begun.closed (begun.with_parts s at (fresh + alone part) (ended t tests) more)) same
    ∙ next s at fresh part more (ended new tests))

optional_is : (a b x y : Node) (c d : Formula) → a ≡ x → b ≡ y → c ≡ d → node.of_two (node.left_join c) a b ≡ node.of_two (node.left_join d) x y
optional_is a b x y c d left right test = rw (left, right, test) refl

test_is : (negated : Bool) (tree a b : Node) (c d : Formula) → a ≡ b → c ≡ d
    → node.of_two (cond negated node.not_exists node.exists c) tree a ≡ begun.tested tree (record { negated = negated; tree = b; condition = d })
test_is true tree a b c d same test = rw (same, test) refl
test_is false tree a b c d same test = rw (same, test) refl

-- the same of a whole group
whole : (s : Setting) (at : Place) (fresh : ℕ) (body : Parts)
    → elements (clauses s at fresh body) ≡ begun.closed (begun.with_parts s at fresh begun.nothing body)
    → ((tree : Node) → fold tested_by tree (clauses s at fresh body) ≡ fold begun.tested tree (tests_in s at fresh body))
    → group (clauses s at fresh body) ≡ begun.finished body (begun.with_parts s at fresh begun.nothing body)
whole s at fresh body is tests =
    tests (filtered (filters_in (clauses s at fresh body)) (elements (clauses s at fresh body)))
    ∙ (ap (λ tree. fold begun.tested (filtered (filters_in (clauses s at fresh body)) tree) (tests_in s at fresh body)) is
    ∙ (ap (λ fs. fold begun.tested (filtered fs (begun.elements_node s at fresh body)) (tests_in s at fresh body)) (filters_are s at fresh body)
    ∙ ap (λ ts. fold begun.tested (filtered (begun.filters body) (begun.elements_node s at fresh body)) ts)
    (sym (tests_parts s at fresh begun.nothing body))))

untested : (s : Setting) (at : Place) (fresh : ℕ) (part : Part) (more : Parts) (tree made : Node)
    → made ≡ fold begun.tested tree (tests_in s at (fresh + alone part) more)
    → made ≡ fold begun.tested tree (tests_in s at (fresh + begun.slashes_of part) more)
untested s at fresh part more tree made is =
    is ∙ ap (λ n. fold begun.tested tree (tests_in s at (fresh + n) more)) (alone_is part)

mutual
  elements_are : (s : Setting) (at : Place) (fresh : ℕ) (tree : Node) (run : List Node) (tests : List Test) (body : Parts)
      → built tree run (clauses s at fresh body) ≡ begun.closed (begun.with_parts s at fresh (so_far tree run tests) body)
  elements_are s at fresh tree run tests no_part = run_is tree run
  elements_are s at fresh tree run tests (part_then (triple subject verb object) more) =
      let n = path_node at fresh subject verb object in
      elements_are s at (fresh + alone (triple subject verb object)) tree (run ++ (n ∷ [])) tests more
      ∙ (ap (λ r. begun.closed (begun.with_parts s at (fresh + alone (triple subject verb object)) (record { tree = tree; run = r; tests = tests }) more)) (longer_is run n)
      ∙ next s at fresh (triple subject verb object) more (record { tree = tree; run = Some (begun.longer (run_of run) n); tests = tests }))
  elements_are s at fresh tree run tests (part_then (filter formula) more) =
      elements_are s at (fresh + alone (filter formula)) tree run tests more
      ∙ next s at fresh (filter formula) more (so_far tree run tests)
  elements_are s at fresh tree run tests (part_then (exists negated word body) more) =
      let test : Test = record {
        negated = negated;
        tree = begun.closed (begun.with_parts s at fresh begun.nothing body);
        condition = begun.condition_of body;
      } in
      elements_are s at (fresh + alone (exists negated word body)) tree run (tests ++ (test ∷ [])) more
      ∙ next s at fresh (exists negated word body) more (so_far tree run (tests ++ (test ∷ [])))
  elements_are s at fresh tree run tests (part_then (optional body) more) =
      after s at fresh (optional body) more _ _ _ tests
      (elements_are s at (fresh + alone (optional body)) _ [] tests more)
      (optional_is (with_run tree run) (elements (clauses s at fresh body)) _ _ (condition (clauses s at fresh body)) _ (run_is tree run)
      (elements_are s at fresh node.unit [] [] body) (condition_is s at fresh body))
  elements_are s at fresh tree run tests (part_then (minus body) more) =
      after s at fresh (minus body) more _ _ _ tests
      (elements_are s at (fresh + alone (minus body)) _ [] tests more)
      (both (node.of_two node.minus) (with_run tree run) (group (clauses s at fresh body)) _ _ (run_is tree run)
      (whole s at fresh body (elements_are s at fresh node.unit [] [] body) (λ t. tests_are s at fresh t body)))
  elements_are s at fresh tree run tests (part_then (union groups) more) =
      after s at fresh (union groups) more _ _ _ tests
      (elements_are s at (fresh + alone (union groups)) _ [] tests more)
      (both joined (with_run tree run) (from_left (node.of_two node.union) (group_nodes s at fresh groups)) _ _ (run_is tree run)
      (ap (λ ns. from_left (node.of_two node.union) ns) (nodes_are s at fresh groups)))
  elements_are s at fresh tree run tests (part_then (graph name word body) more) =
      after s at fresh (graph name word body) more _ _ _ tests
      (elements_are s at (fresh + alone (graph name word body)) _ [] tests more)
      (both joined (with_run tree run) (group (clauses s (graph_place name) fresh body)) _ _ (run_is tree run)
      (whole s (graph_place name) fresh body (elements_are s (graph_place name) fresh node.unit [] [] body)
      (λ t. tests_are s (graph_place name) fresh t body)))
  elements_are s at fresh tree run tests (part_then (window name word body) more) =
      after s at fresh (window name word body) more _ _ _ tests
      (elements_are s at (fresh + alone (window name word body)) _ [] tests more)
      (both joined (with_run tree run) (group (clauses s (window_place s.windows name) fresh body)) _ _ (run_is tree run)
      (whole s (window_place s.windows name) fresh body (elements_are s (window_place s.windows name) fresh node.unit [] [] body)
      (λ t. tests_are s (window_place s.windows name) fresh t body)))
  elements_are s at fresh tree run tests (part_then (bind v formula) more) =
      after s at fresh (bind v formula) more _ _ _ tests
      (elements_are s at (fresh + alone (bind v formula)) _ [] tests more)
      (ap (λ left. node.over (node.extend v formula) left) (run_is tree run))
  elements_are s at fresh tree run tests (part_then (values variables rows) more) =
      after s at fresh (values variables rows) more _ _ _ tests
      (elements_are s at (fresh + alone (values variables rows)) _ [] tests more)
      (ap (λ left. joined left (node.values (map (values_row s.width variables) rows))) (run_is tree run))
  elements_are s at fresh tree run tests (part_then (sub inner) more) =
      after s at fresh (sub inner) more _ _ _ tests
      (elements_are s at (fresh + alone (sub inner)) _ [] tests more)
      (both joined (with_run tree run) (select_node s at fresh inner) _ _ (run_is tree run) (select_is s at fresh inner))

  tests_are : (s : Setting) (at : Place) (fresh : ℕ) (tree : Node) (body : Parts)
      → fold tested_by tree (clauses s at fresh body) ≡ fold begun.tested tree (tests_in s at fresh body)
  tests_are s at fresh tree no_part = refl
  tests_are s at fresh tree (part_then (triple subject verb object) more) =
      untested s at fresh (triple subject verb object) more tree _
      (tests_are s at (fresh + alone (triple subject verb object)) tree more)
  tests_are s at fresh tree (part_then (optional body) more) =
      untested s at fresh (optional body) more tree _ (tests_are s at (fresh + alone (optional body)) tree more)
  tests_are s at fresh tree (part_then (minus body) more) =
      untested s at fresh (minus body) more tree _ (tests_are s at (fresh + alone (minus body)) tree more)
  tests_are s at fresh tree (part_then (union groups) more) =
      untested s at fresh (union groups) more tree _ (tests_are s at (fresh + alone (union groups)) tree more)
  tests_are s at fresh tree (part_then (graph name word body) more) =
      untested s at fresh (graph name word body) more tree _ (tests_are s at (fresh + alone (graph name word body)) tree more)
  tests_are s at fresh tree (part_then (window name word body) more) =
      untested s at fresh (window name word body) more tree _ (tests_are s at (fresh + alone (window name word body)) tree more)
  tests_are s at fresh tree (part_then (filter formula) more) =
      untested s at fresh (filter formula) more tree _ (tests_are s at (fresh + alone (filter formula)) tree more)
  tests_are s at fresh tree (part_then (exists negated word body) more) =
      untested s at fresh (exists negated word body) more _ _
      (tests_are s at (fresh + alone (exists negated word body)) _ more)
      ∙ ap (λ t. fold begun.tested t (tests_in s at (fresh + begun.slashes_of (exists negated word body)) more))
      (test_is negated tree (elements (clauses s at fresh body)) _ (condition (clauses s at fresh body)) _
      (elements_are s at fresh node.unit [] [] body) (condition_is s at fresh body))
  tests_are s at fresh tree (part_then (bind v formula) more) =
      untested s at fresh (bind v formula) more tree _ (tests_are s at (fresh + alone (bind v formula)) tree more)
  tests_are s at fresh tree (part_then (values variables rows) more) =
      untested s at fresh (values variables rows) more tree _ (tests_are s at (fresh + alone (values variables rows)) tree more)
  tests_are s at fresh tree (part_then (sub inner) more) =
      untested s at fresh (sub inner) more tree _ (tests_are s at (fresh + alone (sub inner)) tree more)

  nodes_are : (s : Setting) (at : Place) (fresh : ℕ) (groups : Groups) → group_nodes s at fresh groups ≡ begun.group_nodes s at fresh groups
  nodes_are s at fresh no_group = refl
  nodes_are s at fresh (group_then body more) =
      ap (λ n. n ∷ group_nodes s at (fresh + slashes_in body) more)
      (whole s at fresh body (elements_are s at fresh node.unit [] [] body) (λ t. tests_are s at fresh t body))
      ∙ (ap (λ ns. begun.group_node s at fresh body ∷ ns) (nodes_are s at (fresh + slashes_in body) more)
      ∙ ap (λ n. begun.group_node s at fresh body ∷ begun.group_nodes s at (fresh + n) more) (slashes_are body))

  pub select_is : (s : Setting) (at : Place) (fresh : ℕ) (select : Selection) → select_node s at fresh select ≡ begun.select_node s at fresh select
  select_is s at fresh (selection distinct star items body grouped keys having aggregates) =
      ap (λ tree. selected s.names (selection distinct star items body grouped keys having aggregates) tree)
      (whole s at fresh body (elements_are s at fresh node.unit [] [] body) (λ t. tests_are s at fresh t body))

pub group_is : (s : Setting) (at : Place) (fresh : ℕ) (body : Parts) → group (clauses s at fresh body) ≡ begun.group_node s at fresh body
group_is s at fresh body =
    whole s at fresh body (elements_are s at fresh node.unit [] [] body) (λ t. tests_are s at fresh t body)

pub if_ok : {A E : Type 0} (r : Result A E) (P Q : A → Type 0) → ((x : A) → P x → Q x) → IfOk r P → IfOk r Q
if_ok (Ok x) P Q to h = to x h
if_ok (Err e) P Q to h = tt
