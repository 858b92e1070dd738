use Rattle.std.proofs.Common.{◌≡◌, ◌&&◌, map, filter}
use Rattle.std.specs.List.{range_with_len}
use Rattle.rsp_query.specs.Groups.{parts_in}
use Rattle.rsp_query.specs.Meanings.{part_of}
use Rattle.rsp_shapes.specs.Visible.{is_given, is_visible_in, name_of}
use Rattle.rsp_translation.proofs.selects.every_variable.Given as goal

abbrev pub invariant-loop-variable : goal.invariant-loop-variable
invariant-loop-variable l =
    l.variables.items
    ≡ filter
    (λ v. is_given (name_of l.names v) && is_visible_in l.names (parts_in (map part_of l.body)) v)
    (range_with_len 0 l.variable)
