use Rattle.std.proofs.Common.{◌≡◌, drop, map}
use Rattle.std.specs.List.{list_any}
use Rattle.rsp_engine.specs.Accept.{has_name}
use Rattle.rsp_engine.specs.Inside.{fixed}
use Rattle.rsp_engine.proofs.engine.place_of.Given as goal

abbrev pub invariant-loop-place : goal.invariant-loop-place
invariant-loop-place g l = list_any (has_name l.name) (map fixed (drop l.place l.queries)) ≡ list_any (has_name l.name) (map fixed l.queries)
