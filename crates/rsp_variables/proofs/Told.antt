-- What is told of a variable along a tree is whether it is among the tree's certain, or possible, variables.
use Rattle.std.proofs.Common.{◌≡◌, ℕ, not, ◌&&◌, ◌||◌, nat_eq, filter, refl, sym, ap, ◌∙◌}
use Rattle.rsp_algebra.specs.Nodes as node
use Rattle.rsp_algebra.specs.Nodes.{Node}
use Rattle.rsp_algebra.specs.Patterns.{among}
use Rattle.rsp_algebra.specs.Work.{certain_variables, group_variables}
use Rattle.rsp_algebra.proofs.Subtrees.{any-append}
use Rattle.rsp_variables.specs.Binding.{is_certain, is_possible}
use Rattle.rsp_variables.specs.Possible.{possible_variables}
use Rattle.rsp_variables.proofs.Rows.{among-filter}

module _ (v : ℕ) where
  pub certain-told : (tree : Node) → is_certain v tree ≡ among (certain_variables tree) v
  certain-told node.unit = refl
  certain-told (node.pattern place triple) = refl
  certain-told (node.values rows) = refl
  certain-told (node.over (node.filter condition) child) = certain-told child
  certain-told (node.over (node.extend variable formula) child) =
      ap (λ b. b && not (nat_eq v variable)) (certain-told child) ∙ sym (among-filter (λ w. not (nat_eq w variable)) (certain_variables child) v)
  certain-told (node.over (node.project variables) child) =
      ap (λ b. b && among variables v) (certain-told child) ∙ sym (among-filter (among variables) (certain_variables child) v)
  certain-told (node.over node.distinct child) = certain-told child
  certain-told (node.over (node.group keys aggregates) child) =
      ap (λ b. among keys v && (b && not (among (group_variables aggregates) v))) (certain-told child)
      ∙ sym (among-filter (λ w. among (certain_variables child) w && not (among (group_variables aggregates) w)) keys v)
  certain-told (node.of_two node.join left right) =
      (λ i. certain-told left i || certain-told right i) ∙ sym (any-append (nat_eq v) (certain_variables left) (certain_variables right))
  certain-told (node.of_two (node.left_join condition) left right) = certain-told left
  certain-told (node.of_two node.union left right) =
      (λ i. certain-told left i && certain-told right i) ∙ sym (among-filter (among (certain_variables right)) (certain_variables left) v)
  certain-told (node.of_two node.minus left right) = certain-told left
  certain-told (node.of_two (node.exists condition) left right) = certain-told left
  certain-told (node.of_two (node.not_exists condition) left right) = certain-told left

  pub possible-told : (tree : Node) → is_possible v tree ≡ among (possible_variables tree) v
  possible-told node.unit = refl
  possible-told (node.pattern place triple) = refl
  possible-told (node.values rows) = refl
  possible-told (node.over (node.filter condition) child) = possible-told child
  possible-told (node.over (node.extend variable formula) child) = ap (λ b. nat_eq v variable || b) (possible-told child)
  possible-told (node.over (node.project variables) child) =
      ap (λ b. b && among variables v) (possible-told child) ∙ sym (among-filter (among variables) (possible_variables child) v)
  possible-told (node.over node.distinct child) = possible-told child
  possible-told (node.over (node.group keys aggregates) child) =
      ap (λ b. (among keys v && b) || among (group_variables aggregates) v) (possible-told child)
      ∙ (ap (λ b. b || among (group_variables aggregates) v) (sym (among-filter (among (possible_variables child)) keys v))
      ∙ sym (any-append (nat_eq v) (filter (among (possible_variables child)) keys) (group_variables aggregates)))
  possible-told (node.of_two node.join left right) =
      (λ i. possible-told left i || possible-told right i) ∙ sym (any-append (nat_eq v) (possible_variables left) (possible_variables right))
  possible-told (node.of_two (node.left_join condition) left right) =
      (λ i. possible-told left i || possible-told right i) ∙ sym (any-append (nat_eq v) (possible_variables left) (possible_variables right))
  possible-told (node.of_two node.union left right) =
      (λ i. possible-told left i || possible-told right i) ∙ sym (any-append (nat_eq v) (possible_variables left) (possible_variables right))
  possible-told (node.of_two node.minus left right) = possible-told left
  possible-told (node.of_two (node.exists condition) left right) = possible-told left
  possible-told (node.of_two (node.not_exists condition) left right) = possible-told left
