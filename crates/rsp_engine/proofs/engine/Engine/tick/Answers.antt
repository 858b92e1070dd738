use Rattle.rsp_engine.proofs.Offering.{tick_leads}
use Rattle.rsp_engine.proofs.engine.Engine.tick.Goals as goal

pub returns : goal.returns
returns g c =
    let late = rw c.first_incomplete-next.ensures at c.if-time-next.false in
    record {
      was_ready = c.requires.ready;
      ready = c.pass_to.ensures.broken;
      stands = λ world stands. tick_leads _ _ _ world late c.pass_to.ensures stands;
    }
