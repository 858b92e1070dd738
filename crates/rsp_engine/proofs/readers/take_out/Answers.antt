use Rattle.std.proofs.Common.{rules, ◌≡◌, ◌≤◌, ◌<◌, ◌∙◌, ap, arith, filter, get_or, length, map, nat_eq, not, set, subst}
use Rattle.std.proofs.lemmas.Fn.{filter_same}
use Rattle.rsp_engine.specs.Readers.{lowered}
use Rattle.rsp_engine.proofs.PlacesRead.{all_mapped, more_mapped}
use Rattle.rsp_engine.proofs.readers.take_out.Goals as goal

pub loop-index-preserved : goal.loop-index-preserved
loop-index-preserved c =
    let i = c.loop-index.index in
    let kept = c.retain.new.self.items in
    let below : i < length kept = omega (arith, c.retain.new.self.ok.0) in
    ap (λ l. set l i c.lowered.result) c.loop-index.invariant
    ∙ more_mapped (lowered c.args.place) kept i c.index.result.now c.lowered.result below
    (subst (λ l. c.index.result.now ≡ get_or l i c.index.result.now) c.loop-index.invariant c.index.ensures) c.lowered.ensures

pub returns : goal.returns
returns c =
    let i = c.loop-index.index in
    let kept = c.retain.new.self.items in
    let end : length kept ≤ i = omega (arith, c.retain.new.self.ok.0) in
    let others : kept ≡ filter (λ other. not (nat_eq other c.args.place)) c.args.places.now.items
    = filter_same _ (λ other. not (nat_eq other c.args.place)) _ (λ x b f k. search rules) _ _ c.retain.ensures.filtered in
    c.loop-index.invariant
    ∙ (all_mapped (lowered c.args.place) kept i end ∙ ap (map (lowered c.args.place)) others)
