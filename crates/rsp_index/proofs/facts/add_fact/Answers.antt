use Rattle.std.proofs.Common.{true}
use Rattle.rsp_terms.specs.Same.{fact_same}
use Rattle.rsp_index.proofs.OneFact.{set_changed}
use Rattle.rsp_index.proofs.facts.add_fact.Goals as goal

pub returns-clause-changed : goal.returns-clause-changed
returns-clause-changed c =
    let shared = rw c.in_ok-share.ensures at c.in_ok-insert.ensures.updates.0 in
    set_changed fact_same c.args.facts.now.keys c.insert.new.self.keys c.args.fact.now true c.requires.set c.in_ok-insert.ensures.unique shared c.requires.absent
