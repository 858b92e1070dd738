use Rattle.std.proofs.Common.{◌≡◌, drop}
use Rattle.rsp_phrases.specs.Languages.{has}
use Rattle.rsp_written.specs.Grammar.{numbers}
use Rattle.rsp_written.proofs.reading.is_among.Given as goal

abbrev pub invariant-loop-kind : goal.invariant-loop-kind
invariant-loop-kind l = has (numbers (drop l.kind-index l.kinds)) l.number ≡ has (numbers l.kinds) l.number
