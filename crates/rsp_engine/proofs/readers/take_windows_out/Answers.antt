use Rattle.std.proofs.Common.{rules, ◌≡◌, ◌≤◌, ◌<◌, ◌∙◌, ap, arith, filter, get_or, length, map, nat_eq, not, set, subst}
use Rattle.std.proofs.lemmas.Fn.{filter_same}
use Rattle.rsp_engine.specs.declared.readers.PlacedWindow.{PlacedWindow}
use Rattle.rsp_engine.specs.Readers.{lowered, lowered_window}
use Rattle.rsp_engine.proofs.PlacesRead.{all_mapped, more_mapped, same_mapped}
use Rattle.rsp_engine.proofs.readers.take_windows_out.Goals as goal

pub loop-index-preserved : goal.loop-index-preserved
loop-index-preserved c =
    let i = c.loop-index.index in
    let kept = c.retain.new.self.items in
    let below : i < length kept = omega (arith, c.retain.new.self.ok.0) in
    let is = c.loop-index.invariant in
    let one = c.index_mut.result.now in
    let there = subst (λ l. one ≡ get_or l i one) is c.index_mut.ensures.value in
    let read = c.index.result.now in
    let same : read ≡ one = same_mapped (lowered_window c.args.place) kept i read one below (subst (λ l. read ≡ get_or l i read) is c.index.ensures) there in
    let new : PlacedWindow = record { place = c.lowered.result; first = one.first; shape = one.shape } in
    let place = c.lowered.ensures ∙ ap (λ (w : PlacedWindow). lowered c.args.place w.place) same in
    let made : new ≡ lowered_window c.args.place one = (λ k. record { place = place k; first = one.first; shape = one.shape }) in
    ap (λ l. set l i new) is ∙ more_mapped (lowered_window c.args.place) kept i one new below there made

pub returns : goal.returns
returns c =
    let i = c.loop-index.index in
    let kept = c.retain.new.self.items in
    let end : length kept ≤ i = omega (arith, c.retain.new.self.ok.0) in
    let others : kept ≡ filter (λ (other : PlacedWindow). not (nat_eq other.place c.args.place)) c.args.windows.now.items
    = filter_same _ (λ (other : PlacedWindow). not (nat_eq other.place c.args.place)) _ (λ x b f k. search rules) _ _ c.retain.ensures.filtered in
    c.loop-index.invariant
    ∙ (all_mapped (lowered_window c.args.place) kept i end ∙ ap (map (lowered_window c.args.place)) others)
