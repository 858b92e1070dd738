use Rattle.rsp_engine.proofs.retention.take.Goals as goal

pub returns-clause-up_to : goal.returns-clause-up_to
returns-clause-up_to g c latest low up_to = c.in_ok-watch.ensures.up_to latest low up_to

pub returns-clause-fresh : goal.returns-clause-fresh
returns-clause-fresh g c up_to = c.in_ok-watch.ensures.fresh up_to

pub returns-clause-told : goal.returns-clause-told
returns-clause-told g c items firsts told = c.in_ok-watch.ensures.told items c.args.arrival.graph firsts told
