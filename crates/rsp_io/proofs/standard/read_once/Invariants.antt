use Rattle.std.proofs.Common.{◌≡◌, length}
use Rattle.std.specs.Io.KnownBytes.{Keeps}
use Rattle.rsp_io.proofs.standard.read_once.Given as goal

-- nothing was taken so far
abbrev pub invariant-loop : goal.invariant-loop
invariant-loop g l =
    Keeps (g.I.Read.remaining l.initial.input) (g.I.Read.remaining l.input)
    × (length l.buf ≡ length l.initial.buf)
