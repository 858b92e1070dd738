use Rattle.std.proofs.Common.{rules, ◌≡◌, ◌+◌, ◌∷◌, ◌++◌, [], map, drop, ap, ◌∙◌}
use Rattle.std.proofs.lemmas.List.Elements.{All-push, All-same}
use Rattle.rsp_engine.specs.Keeping.{IsUnmoved}
use Rattle.rsp_engine.specs.Readings.{window_of}
use Rattle.rsp_engine.proofs.Begun.{rest_at, watches_more}
use Rattle.rsp_engine.proofs.registering.unmoved.Goals as goal

pub loop-clause-preserved : goal.loop-clause-preserved
loop-clause-preserved c =
    let contents = c.loop-clause.contents.items in
    let clause = c.clause-item.result in
    let pushed : c.push.new.self.items ≡ contents ++ c.new.result ∷ [] = c.in_ok-push.ensures.items in
    let next : c.in_ok-spot.spot ≡ c.loop-clause.spot + 1 = search rules in
    record {
      unmoved = All-same IsUnmoved _ _ pushed
          (All-push IsUnmoved contents c.new.result c.loop-clause.invariant.unmoved (record { at = c.new.ensures.at; seen = c.new.ensures.seen }));
      watches =
          watches_more c.args.first c.loop-clause.spot c.in_ok-spot.spot contents c.push.new.self.items c.new.result (window_of clause)
          (map window_of (drop c.loop-clause.clause-index c.args.clauses.now))
          (map window_of (drop (c.loop-clause.clause-index + 1) c.args.clauses.now)) _ pushed next
          (rest_at window_of c.args.clauses.now c.loop-clause.clause-index clause c.loop-clause-test.true c.clause-item.is)
          (c.new.ensures.watch
          ∙ ap (λ stream. record { shape = clause.window; spot = c.loop-clause.spot; stream = stream; first = c.args.first }) c.in_ok-stream.ensures)
          c.loop-clause.invariant.watches;
    }
