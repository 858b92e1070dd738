use Rattle.std.proofs.Common.{◌≡◌, ◌∷◌, length, rules}
use Rattle.rsp_events.specs.Buffers.{IsCut}
use Rattle.rsp_events.proofs.BufferLaws.{start_low}
use Rattle.rsp_events.proofs.buffers.Lines.split_first.Goals as goal

pub slice_bounds-line-end : goal.slice_bounds-line-end
slice_bounds-line-end c =
    let split : c.self.inside.ends.now ≡ c.in_ok-end.end.now ∷ c.in_ok-end.ends.now = search rules in
    let cut : IsCut c.self.inside.start (c.in_ok-end.end.now ∷ c.in_ok-end.ends.now) (length c.self.inside.bytes.now) = rw split at c.self.invariant in
    start_low _ _ _ cut.1
