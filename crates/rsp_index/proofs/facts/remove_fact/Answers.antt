use Rattle.std.proofs.Common.{false}
use Rattle.rsp_terms.specs.Same.{fact_same}
use Rattle.rsp_index.proofs.OneFact.{set_changed}
use Rattle.rsp_index.proofs.facts.remove_fact.Goals as goal

pub returns-clause-changed : goal.returns-clause-changed
returns-clause-changed c =
    set_changed fact_same c.args.facts.now.keys c.swap_remove.new.self.keys c.args.fact.now false c.requires.set c.swap_remove.ensures.unique c.swap_remove.ensures.updates.0 c.requires.there
