use Rattle.std.proofs.Common.{◌∙◌, ℕ, ap, Vec, Global}
use Rattle.std.proofs.lemmas.List.{take_all}
use Rattle.rsp_engine.proofs.Logging.{with_place, without_place}
use Rattle.rsp_engine.proofs.storing.places.Goals as goal
use Rattle.rsp_engine.proofs.storing.places.Goals.{then-live+in_ok-push, else-live}

pub loop-live-preserved : goal.loop-live-preserved
loop-live-preserved g c =
    let queries = c.args.queries.now in
    let i = c.loop-live.live-index in
    elim c.if-live.branch [
      | then-live+in_ok-push w ↦
          with_place queries i c.live-item.result c.loop-live.places.items c.if-live.places.items c.loop-live-test.true c.live-item.is
          (ap (λ (v : Vec ℕ Global). v.items) w.places-is ∙ w.in_ok-push.ensures.items) c.loop-live.invariant
      | else-live w ↦
          without_place queries i c.live-item.result c.loop-live.places.items c.if-live.places.items c.loop-live-test.true c.live-item.is
          w.if-live.false (ap (λ (v : Vec ℕ Global). v.items) w.places-is) c.loop-live.invariant
    ]

pub returns : goal.returns
returns g c = rw (take_all c.loop-live.live-index c.args.queries.now c.loop-live-test.false) at c.loop-live.invariant
