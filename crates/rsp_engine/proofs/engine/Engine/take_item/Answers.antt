use Rattle.std.proofs.Common.{◌≤◌, length, sym}
use Rattle.rsp_spec.specs.Limits.{most_triples}
use Rattle.rsp_engine.proofs.Offering.{full_held_refuses, item_offers}
use Rattle.rsp_engine.proofs.Readiness.{idle_first}
use Rattle.rsp_engine.proofs.engine.Engine.take_item.Goals as goal

pub returns-in-Some : goal.returns-in-Some
returns-in-Some g c =
    let small : length c.args.graph ≤ most_triples = rw c.as_slice.ensures at c.if-triples-gt-MOST_TRIPLES.false in
    let late = rw c.first_incomplete-next.ensures at c.if-time-next.false in
    let over = rw (c.as_slice.ensures, c.next_after.ensures, c.in-Some.is) at c.too_many.ensures in
    full_held_refuses c.args.self.now c.args.stream c.args.time c.args.graph c.end_of-end.result c.in-Some.held c.requires.ready (idle_first c.args.self.now c.requires.ready c.requires.idle) small late (c.end_of-end.ensures c.args.graph) (sym over)

pub returns-in-None : goal.returns-in-None
returns-in-None g c =
    let small : length c.args.graph ≤ most_triples = rw c.as_slice.ensures at c.if-triples-gt-MOST_TRIPLES.false in
    let late = rw c.first_incomplete-next.ensures at c.if-time-next.false in
    let none = rw (c.as_slice.ensures, c.next_after.ensures, c.in-None.is) at c.too_many.ensures in
    item_offers c.args.self.now c.keep.new.self c.args.stream c.args.time c.args.graph c.end_of-end.result c.keep.result c.requires.ready (idle_first c.args.self.now c.requires.ready c.requires.idle) small late (c.end_of-end.ensures c.args.graph) (sym none) c.keep.ensures.ok c.keep.ensures.err
