use Rattle.std.proofs.Common.{◌≡◌, map, drop}
use Rattle.std.specs.List.{list_all}
use Rattle.std.specs.Option.{option_eq}
use Rattle.std.specs.Str.{bytes_eq}
use Rattle.rsp_operands.specs.Operands.{term_for, tag_for}
use Rattle.rsp_operands.proofs.joining.all_have_tag_of.Given as goal

abbrev pub invariant-loop-other : goal.invariant-loop-other
invariant-loop-other l =
    list_all (option_eq bytes_eq (tag_for (term_for l.first))) (map tag_for (map term_for (drop l.other-index l.others)))
    ≡ list_all (option_eq bytes_eq (tag_for (term_for l.first))) (map tag_for (map term_for l.others))
