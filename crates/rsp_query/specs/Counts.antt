-- Words of the way: the sum over all parts of a group, as it is counted part by part.
use Rattle.std.specs.Prelude.{ℕ, ◌+◌}
use Rattle.rsp_query.specs.Groups.{Part, Parts, Groups, Selection, optional, minus, union, graph, window, exists, sub, no_part}
use Rattle.rsp_query.specs.Groups.{part_then, no_group, group_then, selection}

abbrev mutual
  pub counted_below : (Part → ℕ) → Part → ℕ
  counted_below f (optional body) = counted_group f body
  counted_below f (minus body) = counted_group f body
  counted_below f (union groups) = counted_groups f groups
  counted_below f (graph name at body) = counted_group f body
  counted_below f (window name at body) = counted_group f body
  counted_below f (exists negated at body) = counted_group f body
  counted_below f (sub inner) = counted_select f inner
  counted_below f _ = 0

  pub counted_group : (Part → ℕ) → Parts → ℕ
  counted_group f no_part = 0
  counted_group f (part_then part more) = (f part + counted_below f part) + counted_group f more

  pub counted_groups : (Part → ℕ) → Groups → ℕ
  counted_groups f no_group = 0
  counted_groups f (group_then group more) = counted_group f group + counted_groups f more

  pub counted_select : (Part → ℕ) → Selection → ℕ
  counted_select f (selection distinct star items body grouped keys having aggregates) = counted_group f body
