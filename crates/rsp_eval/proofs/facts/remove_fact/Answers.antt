use Rattle.rsp_eval.proofs.FactSets.{fact_goes}
use Rattle.rsp_eval.proofs.facts.remove_fact.Goals as goal

pub returns-clause-changed : goal.returns-clause-changed
returns-clause-changed c =
    fact_goes c.args.facts.now.keys c.swap_remove.new.self.keys c.args.fact.now c.requires.set c.swap_remove.ensures.unique c.swap_remove.ensures.updates.0 c.requires.there
