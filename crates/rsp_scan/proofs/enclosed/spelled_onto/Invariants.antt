use Rattle.std.proofs.Common.{◌≡◌, ◌-◌}
use Rattle.std.specs.String.{string_bytes}
use Rattle.rsp_scan.specs.Kinds as kinds
use Rattle.rsp_scan.specs.Readers as part
use Rattle.rsp_scan.proofs.enclosed.spelled_onto.Given as goal

abbrev pub invariant-loop : goal.invariant-loop
invariant-loop l =
    part.onto (string_bytes l.spelled) (part.spelled (l.most - l.counter) (kinds.is_plain l.kind) (kinds.escape l.kind) l.rest)
    ≡ part.onto (string_bytes l.fn.begun) (part.spelled l.fn.most (kinds.is_plain l.fn.kind) (kinds.escape l.fn.kind) l.fn.text)
