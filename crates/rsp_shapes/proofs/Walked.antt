-- What the code finds as it goes over the parts is what the list of all parts says.
use Rattle.std.proofs.Common.{◌≡◌, ◌∙◌, ℕ, Bool, true, false, not, ◌||◌, ◌&&◌, List, [], ◌∷◌, ◌++◌, map, refl, sym, ap, cond, Option, Some, None}
use Rattle.std.specs.Bool.{then_some}
use Rattle.std.specs.List.{list_all}
use Rattle.std.specs.Option.{option_or}
use Rattle.rsp_expr.specs.Errors.{first_value}
use Rattle.rsp_expr.specs.declared.slot.Slot.TheVariants.{Variable, Constant}
use Rattle.rsp_query.specs.Groups.{Part, Parts, Groups, Selection, triple, optional, minus, union, graph, window, filter, exists, bind, values, sub, no_part, part_then, no_group, group_then, selection}
use Rattle.rsp_query.specs.Walks.{below, parts_within, groups_within}
use Rattle.rsp_shapes.specs.Shapes.{is_among, is_triple, has_just_triples, graph_fault, may_be_tested, can_be_tested, exists_fault}
use Rattle.rsp_shapes.specs.Walking as walking

-- ---- the first value of two lists, and tests of two

and_left : (a b : Bool) → (a && b) ≡ true → a ≡ true
and_left true b is = refl
and_left false b is = is

and_right : (a b : Bool) → (a && b) ≡ true → b ≡ true
and_right true b is = is
and_right false b is = absurd (cc)

first : (o : Option ℕ) (rest : List (Option ℕ)) → first_value (o ∷ rest) ≡ option_or o (first_value rest)
first None rest = refl
first (Some x) rest = refl

or_or : (a b c : Option ℕ) → option_or a (option_or b c) ≡ option_or (option_or a b) c
or_or None b c = refl
or_or (Some x) b c = refl

first_of_both : (f : Bool × Part → Option ℕ) (xs ys : List (Bool × Part))
    → first_value (map f (xs ++ ys)) ≡ option_or (first_value (map f xs)) (first_value (map f ys))
first_of_both f [] ys = refl
first_of_both f (x ∷ xs) ys =
    first (f x) (map f (xs ++ ys))
    ∙ (ap (option_or (f x)) (first_of_both f xs ys)
    ∙ (or_or (f x) (first_value (map f xs)) (first_value (map f ys))
    ∙ ap (λ o. option_or o (first_value (map f ys))) (sym (first (f x) (map f xs)))))

and_and : (a b c : Bool) → (a && (b && c)) ≡ ((a && b) && c)
and_and true b c = refl
and_and false b c = refl

all_of_both : (p : Bool × Part → Bool) (xs ys : List (Bool × Part)) → list_all p (xs ++ ys) ≡ (list_all p xs && list_all p ys)
all_of_both p [] ys = refl
all_of_both p (x ∷ xs) ys =
    ap (λ b. p x && b) (all_of_both p xs ys) ∙ and_and (p x) (list_all p xs) (list_all p ys)

-- a part, those in it, and those behind it
first_with : (f : Bool × Part → Option ℕ) (x : Bool × Part) (inside behind : List (Bool × Part)) (here : Option ℕ)
    → here ≡ first_value (map f (x ∷ inside))
    → option_or here (first_value (map f behind)) ≡ first_value (map f (x ∷ (inside ++ behind)))
first_with f x inside behind here is =
    ap (λ o. option_or o (first_value (map f behind))) is ∙ sym (first_of_both f (x ∷ inside) behind)

-- ---- groups of triples

abbrev pub is_triple_at : Bool × Part → Bool
is_triple_at p = is_triple p.1

triples_are : (top : Bool) (body : Parts) → walking.are_triples body ≡ list_all is_triple_at (parts_within top body)
triples_are top no_part = refl
triples_are top (part_then (triple subject verb object) more) = triples_are top more
triples_are top (part_then (optional body) more) = refl
triples_are top (part_then (minus body) more) = refl
triples_are top (part_then (union groups) more) = refl
triples_are top (part_then (graph name at body) more) = refl
triples_are top (part_then (window name at body) more) = refl
triples_are top (part_then (filter condition) more) = refl
triples_are top (part_then (exists negated at body) more) = refl
triples_are top (part_then (bind v formula) more) = refl
triples_are top (part_then (values variables rows) more) = refl
triples_are top (part_then (sub inner) more) = refl

pub just_triples_are : (body : Parts) → walking.has_just_triples body ≡ has_just_triples body
just_triples_are no_part = refl
just_triples_are (part_then part more) = triples_are false (part_then part more)

-- ---- windows and graphs

abbrev pub graph_fault_at : List (List ℕ) → Bool × Part → Option ℕ
graph_fault_at windows p = graph_fault windows p.1

no_fault_in_triples : (windows : List (List ℕ)) (xs : List (Bool × Part)) → list_all is_triple_at xs ≡ true
    → first_value (map (graph_fault_at windows) xs) ≡ None
no_fault_in_triples windows [] all = refl
no_fault_in_triples windows ((top, triple subject verb object) ∷ xs) all = no_fault_in_triples windows xs all
no_fault_in_triples windows ((top, optional body) ∷ xs) all = absurd (cc)
no_fault_in_triples windows ((top, minus body) ∷ xs) all = absurd (cc)
no_fault_in_triples windows ((top, union groups) ∷ xs) all = absurd (cc)
no_fault_in_triples windows ((top, graph name at body) ∷ xs) all = absurd (cc)
no_fault_in_triples windows ((top, window name at body) ∷ xs) all = absurd (cc)
no_fault_in_triples windows ((top, filter condition) ∷ xs) all = absurd (cc)
no_fault_in_triples windows ((top, exists negated at body) ∷ xs) all = absurd (cc)
no_fault_in_triples windows ((top, bind v formula) ∷ xs) all = absurd (cc)
no_fault_in_triples windows ((top, values variables rows) ∷ xs) all = absurd (cc)
no_fault_in_triples windows ((top, sub inner) ∷ xs) all = absurd (cc)

pub triples_in : (body : Parts) → has_just_triples body ≡ true → list_all is_triple_at (parts_within false body) ≡ true
triples_in no_part is = absurd (cc)
triples_in (part_then part more) is = is

graph_of_variable : (windows : List (List ℕ)) (body : Parts) (at : ℕ) (test : Bool) → test ≡ has_just_triples body
    → then_some (not test) at ≡ option_or (then_some (not (has_just_triples body)) at)
    (first_value (map (graph_fault_at windows) (parts_within false body)))
graph_of_variable windows body at true is =
    rw (sym is, no_fault_in_triples windows (parts_within false body) (triples_in body (sym is))) refl
graph_of_variable windows body at false is = rw (sym is) refl

window_named : (test : Bool) (inside : Option ℕ) (at : ℕ) → cond test inside (Some at) ≡ option_or (then_some (not test) at) inside
window_named true inside at = refl
window_named false inside at = refl

mutual
  graph_is : (windows : List (List ℕ)) (top : Bool) (part : Part)
      → walking.graph_fault windows part ≡ first_value (map (graph_fault_at windows) ((top, part) ∷ below part))
  graph_is windows top (triple subject verb object) = refl
  graph_is windows top (optional body) = graph_in_is windows true body
  graph_is windows top (minus body) = graph_in_is windows false body
  graph_is windows top (union groups) = graph_among_is windows groups
  graph_is windows top (graph (Variable v) at body) =
      graph_of_variable windows body at (walking.has_just_triples body) (just_triples_are body)
      ∙ sym (first (then_some (not (has_just_triples body)) at) (map (graph_fault_at windows) (parts_within false body)))
  graph_is windows top (graph (Constant name) at body) = graph_in_is windows false body
  graph_is windows top (window name at body) =
      ap (λ inside. cond (is_among windows name) inside (Some at)) (graph_in_is windows false body)
      ∙ (window_named (is_among windows name) (first_value (map (graph_fault_at windows) (parts_within false body))) at
      ∙ sym (first (then_some (not (is_among windows name)) at) (map (graph_fault_at windows) (parts_within false body))))
  graph_is windows top (filter condition) = refl
  graph_is windows top (exists negated at body) = graph_in_is windows false body
  graph_is windows top (bind v formula) = refl
  graph_is windows top (values variables rows) = refl
  graph_is windows top (sub (selection distinct star items body grouped keys having aggregates)) = graph_in_is windows false body

  graph_in_is : (windows : List (List ℕ)) (top : Bool) (body : Parts)
      → walking.graph_fault_in windows body ≡ first_value (map (graph_fault_at windows) (parts_within top body))
  graph_in_is windows top no_part = refl
  graph_in_is windows top (part_then part more) =
      ap (option_or (walking.graph_fault windows part)) (graph_in_is windows top more)
      ∙ first_with (graph_fault_at windows) (top, part) (below part) (parts_within top more)
      (walking.graph_fault windows part) (graph_is windows top part)

  graph_among_is : (windows : List (List ℕ)) (groups : Groups)
      → walking.graph_fault_among windows groups ≡ first_value (map (graph_fault_at windows) (groups_within groups))
  graph_among_is windows no_group = refl
  graph_among_is windows (group_then group more) =
      ap (λ o. option_or o (walking.graph_fault_among windows more)) (graph_in_is windows false group)
      ∙ (ap (option_or (first_value (map (graph_fault_at windows) (parts_within false group)))) (graph_among_is windows more)
      ∙ sym (first_of_both (graph_fault_at windows) (parts_within false group) (groups_within more)))

pub graph_of_is : (windows : List (List ℕ)) (s : Selection)
    → walking.graph_fault_of windows s ≡ first_value (map (graph_fault_at windows) (below (sub s)))
graph_of_is windows (selection distinct star items body grouped keys having aggregates) = graph_in_is windows false body

-- ---- EXISTS

and_same : (a b : Bool) (x y : Bool) → a ≡ x → b ≡ y → (a && b) ≡ (x && y)
and_same a b x y left right = rw (left, right) refl

mutual
  plain_is : (part : Part) → walking.is_plain part ≡ list_all may_be_tested ((false, part) ∷ below part)
  plain_is (triple subject verb object) = refl
  plain_is (union groups) = plain_groups_are groups
  plain_is (graph (Variable v) at body) = refl
  plain_is (graph (Constant name) at body) = plain_are body
  plain_is (window name at body) = plain_are body
  plain_is (optional body) = refl
  plain_is (minus body) = refl
  plain_is (filter condition) = refl
  plain_is (exists negated at body) = refl
  plain_is (bind v formula) = refl
  plain_is (values variables rows) = refl
  plain_is (sub inner) = refl

  plain_are : (body : Parts) → walking.are_plain body ≡ list_all may_be_tested (parts_within false body)
  plain_are no_part = refl
  plain_are (part_then part more) =
      and_same (walking.is_plain part) (walking.are_plain more) (list_all may_be_tested ((false, part) ∷ below part))
      (list_all may_be_tested (parts_within false more)) (plain_is part) (plain_are more)
      ∙ sym (all_of_both may_be_tested ((false, part) ∷ below part) (parts_within false more))

  plain_groups_are : (groups : Groups) → walking.are_plain_groups groups ≡ list_all may_be_tested (groups_within groups)
  plain_groups_are no_group = refl
  plain_groups_are (group_then group more) =
      and_same (walking.are_plain group) (walking.are_plain_groups more) (list_all may_be_tested (parts_within false group))
      (list_all may_be_tested (groups_within more)) (plain_are group) (plain_groups_are more)
      ∙ sym (all_of_both may_be_tested (parts_within false group) (groups_within more))

top_is : (part : Part) → (walking.is_filter part || walking.is_plain part) ≡ list_all may_be_tested ((true, part) ∷ below part)
top_is (triple subject verb object) = refl
top_is (union groups) = plain_groups_are groups
top_is (graph (Variable v) at body) = refl
top_is (graph (Constant name) at body) = plain_are body
top_is (window name at body) = plain_are body
top_is (optional body) = refl
top_is (minus body) = refl
top_is (filter condition) = refl
top_is (exists negated at body) = refl
top_is (bind v formula) = refl
top_is (values variables rows) = refl
top_is (sub inner) = refl

pub tested_is : (body : Parts) → walking.can_be_tested body ≡ can_be_tested body
tested_is no_part = refl
tested_is (part_then part more) =
    and_same (walking.is_filter part || walking.is_plain part) (walking.can_be_tested more)
    (list_all may_be_tested ((true, part) ∷ below part)) (list_all may_be_tested (parts_within true more)) (top_is part) (tested_is more)
    ∙ sym (all_of_both may_be_tested ((true, part) ∷ below part) (parts_within true more))

-- whether a part is at the top moves its own fault alone
abbrev pub is_like : Bool × Part → Bool
is_like p = may_be_tested (true, p.1)

no_fault_in_tested : (xs : List (Bool × Part)) → list_all is_like xs ≡ true → first_value (map exists_fault xs) ≡ None
no_fault_in_tested [] all = refl
no_fault_in_tested ((top, triple subject verb object) ∷ xs) all = no_fault_in_tested xs all
no_fault_in_tested ((top, union groups) ∷ xs) all = no_fault_in_tested xs all
no_fault_in_tested ((top, graph (Variable v) at body) ∷ xs) all = absurd (cc)
no_fault_in_tested ((top, graph (Constant name) at body) ∷ xs) all = no_fault_in_tested xs all
no_fault_in_tested ((top, window name at body) ∷ xs) all = no_fault_in_tested xs all
no_fault_in_tested ((top, filter condition) ∷ xs) all = no_fault_in_tested xs all
no_fault_in_tested ((top, optional body) ∷ xs) all = absurd (cc)
no_fault_in_tested ((top, minus body) ∷ xs) all = absurd (cc)
no_fault_in_tested ((top, exists negated at body) ∷ xs) all = absurd (cc)
no_fault_in_tested ((top, bind v formula) ∷ xs) all = absurd (cc)
no_fault_in_tested ((top, values variables rows) ∷ xs) all = absurd (cc)
no_fault_in_tested ((top, sub inner) ∷ xs) all = absurd (cc)

like_one : (top : Bool) (part : Part) → may_be_tested (top, part) ≡ true → may_be_tested (true, part) ≡ true
like_one true part is = is
like_one false (triple subject verb object) is = refl
like_one false (union groups) is = refl
like_one false (graph (Variable v) at body) is = is
like_one false (graph (Constant name) at body) is = refl
like_one false (window name at body) is = refl
like_one false (filter condition) is = refl
like_one false (optional body) is = is
like_one false (minus body) is = is
like_one false (exists negated at body) is = is
like_one false (bind v formula) is = is
like_one false (values variables rows) is = is
like_one false (sub inner) is = is

like_all : (xs : List (Bool × Part)) → list_all may_be_tested xs ≡ true → list_all is_like xs ≡ true
like_all [] all = refl
like_all (x ∷ xs) all =
    rw (like_one x.0 x.1 (and_left (may_be_tested x) (list_all may_be_tested xs) all))
    (like_all xs (and_right (may_be_tested x) (list_all may_be_tested xs) all))

-- the same parts, at the top or not
first_wherever : (body : Parts) → list_all is_like (parts_within true body) ≡ list_all is_like (parts_within false body)
first_wherever no_part = refl
first_wherever (part_then part more) =
    ap (λ b. may_be_tested (true, part) && b)
    (all_of_both is_like (below part) (parts_within true more)
    ∙ (ap (λ b. list_all is_like (below part) && b) (first_wherever more)
    ∙ sym (all_of_both is_like (below part) (parts_within false more))))

test_of : (top : Bool) (body : Parts) (at : ℕ) (test : Bool) → test ≡ can_be_tested body
    → then_some (top || not test) at
    ≡ option_or (then_some (top || not (can_be_tested body)) at) (first_value (map exists_fault (parts_within false body)))
test_of true body at test is = refl
test_of false body at true is =
    rw (
      sym is,
      no_fault_in_tested (parts_within false body) (sym (first_wherever body) ∙ like_all (parts_within true body) (sym is)),
    ) refl
test_of false body at false is = rw (sym is) refl

mutual
  exists_is : (top : Bool) (part : Part) → walking.exists_fault top part ≡ first_value (map exists_fault ((top, part) ∷ below part))
  exists_is top (triple subject verb object) = refl
  exists_is top (optional body) = exists_in_is true body
  exists_is top (minus body) = exists_in_is false body
  exists_is top (union groups) = exists_among_is groups
  exists_is top (graph name at body) = exists_in_is false body
  exists_is top (window name at body) = exists_in_is false body
  exists_is top (filter condition) = refl
  exists_is top (exists negated at body) =
      test_of top body at (walking.can_be_tested body) (tested_is body)
      ∙ sym (first (then_some (top || not (can_be_tested body)) at) (map exists_fault (parts_within false body)))
  exists_is top (bind v formula) = refl
  exists_is top (values variables rows) = refl
  exists_is top (sub (selection distinct star items body grouped keys having aggregates)) = exists_in_is false body

  exists_in_is : (top : Bool) (body : Parts) → walking.exists_fault_in top body ≡ first_value (map exists_fault (parts_within top body))
  exists_in_is top no_part = refl
  exists_in_is top (part_then part more) =
      ap (option_or (walking.exists_fault top part)) (exists_in_is top more)
      ∙ first_with exists_fault (top, part) (below part) (parts_within top more) (walking.exists_fault top part) (exists_is top part)

  exists_among_is : (groups : Groups) → walking.exists_fault_among groups ≡ first_value (map exists_fault (groups_within groups))
  exists_among_is no_group = refl
  exists_among_is (group_then group more) =
      ap (λ o. option_or o (walking.exists_fault_among more)) (exists_in_is false group)
      ∙ (ap (option_or (first_value (map exists_fault (parts_within false group)))) (exists_among_is more)
      ∙ sym (first_of_both exists_fault (parts_within false group) (groups_within more)))

pub exists_of_is : (s : Selection) → walking.exists_fault_of s ≡ first_value (map exists_fault (below (sub s)))
exists_of_is (selection distinct star items body grouped keys having aggregates) = exists_in_is false body
