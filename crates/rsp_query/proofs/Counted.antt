-- What is counted part by part is the sum over the walk.
use Rattle.std.proofs.Common.{◌≡◌, ℕ, Bool, true, false, ◌++◌, refl, arith}
use Rattle.std.specs.Prelude.{sum_by}
use Rattle.std.proofs.lemmas.List.Sums.{sum_by-append, sum_by-cons}
use Rattle.rsp_query.specs.Groups.{Part, Parts, Groups, triple, optional, minus, union, graph, window, filter, exists, bind, values, sub, no_part, part_then, no_group, group_then, selection}
use Rattle.rsp_query.specs.Walks.{below, counted, groups_within, parts_within}
use Rattle.rsp_query.specs.Counts.{counted_below, counted_group, counted_groups}

mutual
  pub below_counted : (f : Part → ℕ) (part : Part) → sum_by (λ x. f x.1) (below part) ≡ counted_below f part
  below_counted f (triple subject verb object) = refl
  below_counted f (optional body) = group_counted f true body
  below_counted f (minus body) = group_counted f false body
  below_counted f (union groups) = groups_counted f groups
  below_counted f (graph name at body) = group_counted f false body
  below_counted f (window name at body) = group_counted f false body
  below_counted f (filter condition) = refl
  below_counted f (exists negated at body) = group_counted f false body
  below_counted f (bind v formula) = refl
  below_counted f (values variables rows) = refl
  below_counted f (sub (selection distinct star items body grouped keys having aggregates)) = group_counted f false body

  pub group_counted : (f : Part → ℕ) (top : Bool) (body : Parts) → sum_by (λ x. f x.1) (parts_within top body) ≡ counted_group f body
  group_counted f top no_part = refl
  group_counted f top (part_then part more) =
      let first = sum_by-cons (λ (x : Bool × Part). f x.1) (top, part) (below part ++ parts_within top more) in
      let split = sum_by-append (λ (x : Bool × Part). f x.1) (below part) (parts_within top more) in
      let inside = below_counted f part in
      let others = group_counted f top more in
      omega (arith, first, split, inside, others)

  pub groups_counted : (f : Part → ℕ) (groups : Groups) → sum_by (λ x. f x.1) (groups_within groups) ≡ counted_groups f groups
  groups_counted f no_group = refl
  groups_counted f (group_then group more) =
      let split = sum_by-append (λ (x : Bool × Part). f x.1) (parts_within false group) (groups_within more) in
      let first = group_counted f false group in
      let others = groups_counted f more in
      omega (arith, split, first, others)

-- the law
pub counted_is : (f : Part → ℕ) (body : Parts) → counted f body ≡ counted_group f body
counted_is f body = group_counted f false body
