use Rattle.std.proofs.Common.{◌≡◌, ◌≤◌, ◌<◌, ◌∙◌, ap, arith, get_or, length, refl, set, subst}
use Rattle.rsp_engine.specs.Watched.{calmed}
use Rattle.rsp_engine.proofs.PlacesRead.{all_mapped, more_mapped}
use Rattle.rsp_engine.proofs.arrivals.calm_query.Goals as goal

pub loop-window-preserved : goal.loop-window-preserved
loop-window-preserved g c =
    let old = c.args.live.now.watched in
    let i = c.loop-window.window in
    let one = c.index_mut.result.now in
    let is = c.loop-window.invariant.watched in
    let below : i < length old.items = omega (arith, old.ok.0) in
    record {
      parts = c.loop-window.invariant.parts;
      due = c.loop-window.invariant.due;
      watched =
          ap (λ l. set l i (calmed one)) is
          ∙ more_mapped calmed old.items i one (calmed one) below (subst (λ l. one ≡ get_or l i one) is c.index_mut.ensures.value) refl;
    }

pub returns : goal.returns
returns g c =
    let old = c.args.live.now.watched in
    let i = c.loop-window.window in
    let end : length old.items ≤ i = omega (arith, old.ok.0) in
    record {
      parts = c.loop-window.invariant.parts;
      due = c.loop-window.invariant.due;
      watched = c.loop-window.invariant.watched ∙ all_mapped calmed old.items i end;
    }
