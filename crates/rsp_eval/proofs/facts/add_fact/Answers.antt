use Rattle.rsp_eval.proofs.FactSets.{fact_comes}
use Rattle.rsp_eval.proofs.facts.add_fact.Goals as goal

pub returns-clause-changed : goal.returns-clause-changed
returns-clause-changed c =
    let shared = rw c.in_ok-share.ensures at c.in_ok-insert.ensures.updates.0 in
    fact_comes c.args.facts.now.keys c.insert.new.self.keys c.args.fact.now c.requires.set c.in_ok-insert.ensures.unique shared c.requires.absent
