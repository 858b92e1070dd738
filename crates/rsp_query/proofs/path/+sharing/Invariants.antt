use Rattle.std.proofs.Common.{◌≡◌, map, ◌++◌, drop}
use Rattle.rsp_query.specs.Meanings.{way_of}
use Rattle.rsp_query.proofs.path.+sharing.Given as goal

abbrev pub invariant-share_all-loop-part : goal.invariant-share_all-loop-part
invariant-share_all-loop-part l = map way_of l.others.items ++ map way_of (drop l.part-index l.parts) ≡ map way_of l.parts
