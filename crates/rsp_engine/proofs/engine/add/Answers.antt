use Rattle.std.proofs.Common.{◌≡◌, List, arith, length, subst, sym}
use Rattle.rsp_engine.specs.declared.live_query.LiveQuery.{LiveQuery}
use Rattle.rsp_engine.specs.Readers.{AreRead}
use Rattle.rsp_engine.proofs.ReadersBehind.{read_more}
use Rattle.rsp_engine.proofs.engine.add.Goals as goal

pub returns-clause-read : goal.returns-clause-read
returns-clause-read g c =
    let last : c.len.result ≡ length c.args.queries.now.items = omega (arith, c.len.ensures, c.args.queries.now.ok.0) in
    subst (AreRead c.add.new.self) (sym {A = List (LiveQuery g.row.A.Denot)} c.in_ok-push.ensures.items)
    (read_more c.args.readers.now c.add.new.self c.args.queries.now.items c.requires.read c.add.ensures.newest c.args.query c.len.result last c.requires.calm
    c.in_ok-add.ensures.watchers c.in_ok-add.ensures.windows)
