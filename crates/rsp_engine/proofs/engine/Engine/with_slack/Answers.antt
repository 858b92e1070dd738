use Rattle.std.proofs.Common.{ap, arith, map, refl}
use Rattle.rsp_engine.specs.Inside.{live_of}
use Rattle.rsp_engine.proofs.Offering.{new_stands}
use Rattle.rsp_engine.proofs.ReadersBehind.{read_none}
use Rattle.rsp_engine.proofs.Readiness.{ready_new}
use Rattle.rsp_engine.proofs.engine.Engine.with_slack.Goals as goal

pub invariant_of-result : goal.invariant_of-result
invariant_of-result g c = λ _. (
  ready_new _ _ _ _ _ c.requires refl c.new.ensures.items c.new-3.ensures c.new-5.ensures refl refl,
  (
    read_none c.new-2.result c.new.result.items c.new.ensures.items c.new-2.ensures.watchers c.new-2.ensures.windows,
    rw c.new.ensures.items (λ i d within. absurd (omega (arith, within))),
  ),
)

pub returns : goal.returns
returns g c = new_stands _ c.args.slack refl refl (ap (map (live_of g.A.Answer.facts)) c.new.ensures.items) c.new-3.ensures c.new-5.ensures refl refl
