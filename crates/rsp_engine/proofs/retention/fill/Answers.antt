use Rattle.std.proofs.Common.{ℕ, List, [], ◌∷◌, Option, ◌<◌, ◌+◌, length, length-append, sym, ap, subst, slice_index_or, take, ◌∙◌, arith}
use Rattle.rsp_scope.specs.Ends.{AreEnds}
use Rattle.rsp_scope.proofs.Needed.{ends_more}
use Rattle.rsp_engine.specs.Keeping.{watches_by}
use Rattle.rsp_engine.proofs.KeptEnds.{end_of_item, no_item}
use Rattle.rsp_engine.proofs.retention.fill.Goals as goal

pub end_within-end-requires : goal.end_within-end-requires
end_within-end-requires g c =
    let i = c.loop-index.index in
    let below : i < length c.args.streams.now.items = omega (arith, c.loop-index-test.true, c.count-index-end.ensures) in
    omega (arith, c.time_at-time.ensures no_item, c.requires.timed i no_item below)

pub push_reserved-requires : goal.push_reserved-requires
push_reserved-requires g c =
    omega (
      arith,
      c.loop-index-test.true,
      c.count-index-end.ensures,
      c.loop-index.invariant.many,
      c.loop-index.ends.ok.0,
      c.loop-index.invariant.room,
      c.clear.ensures.capacity,
      c.requires.room,
    )

pub loop-index-preserved : goal.loop-index-preserved
loop-index-preserved g c =
    let i = c.loop-index.index in
    let items = c.args.streams.now.items in
    let watches = watches_by c.args.queries.now in
    let below : i < length items = omega (arith, c.loop-index-test.true, c.count-index-end.ensures) in
    let item = slice_index_or items i no_item in
    let end = end_of_item watches item c.number_at-number.result c.stream_at.result.now c.time_at-time.result c.end_at-most.result c.end_within-end.result
    (c.number_at-number.ensures no_item) (c.stream_at.ensures no_item) (c.time_at-time.ensures no_item) (c.end_at-most.ensures no_item)
    (c.end_within-end.ensures item.graph) in
    record {
      ends = λ within. subst (AreEnds watches (take (i + 1) items)) (sym {A = List (Option ℕ)} c.push_reserved.ensures.items)
          (ends_more watches items c.loop-index.ends.items i no_item c.end_within-end.result below (c.loop-index.invariant.ends within) (end (within i no_item below)));
      many = omega (arith, ap length c.push_reserved.ensures.items, c.loop-index.invariant.many, length-append c.loop-index.ends.items (c.end_within-end.result ∷ []));
      room = c.push_reserved.ensures.capacity ∙ c.loop-index.invariant.room;
    }
