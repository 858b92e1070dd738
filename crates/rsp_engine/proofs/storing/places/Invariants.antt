use Rattle.std.proofs.Common.{◌≡◌, true, take}
use Rattle.std.specs.List.{All, Contains}
use Rattle.rsp_engine.proofs.storing.places.Given as goal

abbrev pub invariant-loop-live : goal.invariant-loop-live
invariant-loop-live g l = All (λ live. live.reported ≡ true → Contains l.places.items live.place) (take l.live-index l.queries)
