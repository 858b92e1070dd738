use Rattle.std.proofs.Common.{◌≡◌, Some, [], map, drop}
use Rattle.std.specs.String.{string_bytes}
use Rattle.rsp_operands.specs.Operands.{term_for, texts_onto}
use Rattle.rsp_operands.proofs.joining.joined.Given as goal

abbrev pub invariant-loop-part : goal.invariant-loop-part
invariant-loop-part l =
    texts_onto (Some (string_bytes l.text)) (map term_for (drop l.part-index l.parts))
    ≡ texts_onto (Some []) (map term_for l.parts)
