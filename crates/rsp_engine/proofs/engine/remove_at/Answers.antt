use Rattle.std.proofs.Common.{◌∙◌, List, subst, sym}
use Rattle.rsp_engine.specs.declared.live_query.LiveQuery.{LiveQuery}
use Rattle.rsp_engine.specs.Readers.{AreRead}
use Rattle.rsp_engine.proofs.ReadersBehind.{read_less}
use Rattle.rsp_engine.proofs.engine.remove_at.Goals as goal

pub returns-clause-read : goal.returns-clause-read
returns-clause-read g c =
    subst (AreRead c.tidy.new.self) (sym {A = List (LiveQuery g.row.A.Denot)} c.remove-gone.ensures.items)
    (read_less c.args.readers.now c.tidy.new.self c.args.queries.now.items c.requires.read (c.tidy.ensures.newest ∙ c.remove.ensures.newest) c.args.place
    (λ s. c.tidy.ensures.watchers s ∙ c.remove.ensures.watchers s) (λ s. c.tidy.ensures.windows s ∙ c.remove.ensures.windows s))
