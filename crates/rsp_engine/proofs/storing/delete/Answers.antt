use Rattle.std.proofs.lemmas.Result.{on_ok_weaker}
use Rattle.rsp_multiset.specs.Weights.{times, weight}
use Rattle.rsp_terms.specs.Same.{fact_eq}
use Rattle.rsp_engine.proofs.Logging.{logged_as}
use Rattle.rsp_engine.proofs.storing.delete.Goals as goal

pub returns-clause-logged : goal.returns-clause-logged
returns-clause-logged g c =
    on_ok_weaker c.record.result
    (λ logged k d below told q. logged_as _ _ (times fact_eq c.args.stored.now q) (times fact_eq c.delete.new.self q)
    (weight fact_eq c.in_ok-change.change q) (logged k d below told q) (c.in_ok-change.ensures.change q))
    c.record.ensures
