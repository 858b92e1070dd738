-- Words of the way: the operators, calls and aggregates of a SELECT, counted by themselves.
use Rattle.std.specs.Prelude.{ℕ, suc, ◌+◌, ◌-◌, sum_by}
use Rattle.std.specs.Option.{option_to_list}
use Rattle.rsp_written.specs.Trees as written
use Rattle.rsp_written.specs.Trees.{Expr, Exprs, Operands, Element, Elements, Item, Selected}
use Rattle.rsp_numbering.specs.Selections.{items_in}

abbrev mutual
  pub operators : Expr → ℕ
  operators (written.any_of parts) = operators_among 1 parts - 1
  operators (written.all_of parts) = operators_among 1 parts - 1
  operators (written.compared s left right) = suc (operators left + operators right)
  operators (written.member negated item items) = suc (operators item + operators_among 0 items)
  operators (written.sum first others) = operators first + operators_behind others
  operators (written.product first others) = operators first + operators_behind others
  operators (written.signed s part) = suc (operators part)
  operators (written.bound x) = 1
  operators (written.call f arguments) = suc (operators_among 0 arguments)
  operators written.count_rows = 1
  operators (written.aggregate k distinct argument) = suc (operators argument)
  operators _ = 0

  -- each with so many signs before it
  pub operators_among : ℕ → Exprs → ℕ
  operators_among signs written.no_expr = 0
  operators_among signs (written.expr_then e more) = (signs + operators e) + operators_among signs more

  pub operators_behind : Operands → ℕ
  operators_behind written.no_operand = 0
  operators_behind (written.operand_then s e more) = suc (operators e + operators_behind more)

abbrev pub item_operators : Item → ℕ
item_operators (written.shown x) = 0
item_operators (written.computed e x) = operators e

abbrev mutual
  pub element_operators : Element → ℕ
  element_operators (written.optional_group body) = group_operators body
  element_operators (written.minus_group body) = group_operators body
  element_operators (written.union_of groups) = groups_operators groups
  element_operators (written.graph_group name place body) = group_operators body
  element_operators (written.window_group name place body) = group_operators body
  element_operators (written.filter e) = operators e
  element_operators (written.exists negated place body) = group_operators body
  element_operators (written.bind e x) = operators e
  element_operators (written.sub_select inner) = select_operators inner
  element_operators _ = 0

  pub group_operators : Elements → ℕ
  group_operators written.no_element = 0
  group_operators (written.element_then element more) = element_operators element + group_operators more

  pub groups_operators : written.Groups → ℕ
  groups_operators written.no_group = 0
  groups_operators (written.group_then group more) = group_operators group + groups_operators more

  pub select_operators : Selected → ℕ
  select_operators (written.selected distinct projection body keys having) =
      (sum_by item_operators (items_in projection) + group_operators body)
      + (sum_by item_operators keys + sum_by operators (option_to_list having))
