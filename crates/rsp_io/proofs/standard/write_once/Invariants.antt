use Rattle.std.specs.Io.KnownBytes.{Keeps}
use Rattle.rsp_io.proofs.standard.write_once.Given as goal

-- nothing was taken so far
abbrev pub invariant-loop : goal.invariant-loop
invariant-loop g l = Keeps (g.W.Write.contents l.initial.output) (g.W.Write.contents l.output)
