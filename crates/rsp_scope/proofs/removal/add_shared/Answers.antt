use Rattle.std.proofs.Common.{sym, ◌∙◌}
use Rattle.rsp_scope.proofs.Takings.{put-shared, put-unshared}
use Rattle.rsp_scope.proofs.removal.add_shared.Goals as goal

pub returns-in_ok-insert : goal.returns-in_ok-insert
returns-in_ok-insert g c q =
    put-shared {E = g.row.V.Denot} {eq = g.V.PartialEq.eq} g.met.V.Cell.identical c.args.found.now.keys c.insert.new.self.keys c.args.others.now.keys
    c.args.value
    q
    (sym c.contains.ensures ∙ c.if-contains.true)
    (c.in_ok-insert.ensures.updates.0 q)

pub returns-else-contains : goal.returns-else-contains
returns-else-contains g c q =
    put-unshared {E = g.row.V.Denot} {eq = g.V.PartialEq.eq} g.met.V.Cell.identical c.args.found.now.keys c.args.others.now.keys c.args.value
    q
    (sym c.contains.ensures ∙ c.if-contains.false)
