use Rattle.std.proofs.Common.{◌+◌, ◌≤◌, length, arith}
use Rattle.rsp_scope.proofs.InsertCounts.{most_stored}
use Rattle.rsp_scope.proofs.room.without_memory.Goals as goal

pub returns-then-stored-quads-le-MOST_QUADS : goal.returns-then-stored-quads-le-MOST_QUADS
returns-then-stored-quads-le-MOST_QUADS c =
    let most = most_stored c.args.facts.now c.args.quads.now in
    let fits = c.if-stored-quads-le-MOST_QUADS.true in
    omega (arith, most, fits)
