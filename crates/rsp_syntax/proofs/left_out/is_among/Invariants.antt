use Rattle.std.proofs.Common.{◌≡◌, map, drop}
use Rattle.rsp_syntax.specs.LeftOut.{is_among}
use Rattle.rsp_syntax.proofs.left_out.is_among.Given as goal

abbrev pub invariant-loop-name : goal.invariant-loop-name
invariant-loop-name l =
    is_among (map (λ name. name.now) (drop l.name-index l.names)) l.text ≡ is_among (map (λ name. name.now) l.names) l.text
