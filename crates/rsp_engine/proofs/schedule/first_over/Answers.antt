use Rattle.std.proofs.Common.{◌≤◌, ◌<◌, ◌∙◌, Some, arith, length, refl, subst, sym}
use Rattle.rsp_engine.specs.Inside.{asked}
use Rattle.std.proofs.lemmas.Bool.{and_parts}
use Rattle.rsp_engine.specs.Readers.{is_watcher, reads}
use Rattle.rsp_engine.specs.Watching.{IsPrompt, asks_contents, is_due_over_by}
use Rattle.rsp_engine.proofs.FirstPlaces.{other_stream}
use Rattle.rsp_engine.proofs.FirstReader.{fail_first, fail_more, first_there, left_false, left_true, none_there, place_passes}
use Rattle.rsp_engine.proofs.Named.{get_index}
use Rattle.rsp_engine.proofs.PlacesRead.{place_inside}
use Rattle.rsp_engine.proofs.schedule.first_over.Goals as goal

pub loop-index-init : goal.loop-index-init
loop-index-init g c =
    fail_first (is_watcher c.args.stream.now) (λ live. is_due_over_by (asked live) c.args.stream.now c.args.next) c.args.queries.now
    c.watchers-places.result.now (c.watchers-places.ensures ∙ c.requires.read) c.args.number (λ live none. other_stream c.args.stream.now c.args.next live none)

pub offset_bounds-queries-place : goal.offset_bounds-queries-place
offset_bounds-queries-place g c =
    let within : c.loop-index.index < length c.watchers-places.result.now = omega (arith, c.loop-index-test.true) in
    let there = place_inside (is_watcher c.args.stream.now) c.watchers-places.result.now c.args.queries.now c.loop-index.index 0 (c.watchers-places.ensures ∙ c.requires.read) within in
    omega (arith, there)

pub bounds-queries-place : goal.bounds-queries-place
bounds-queries-place g c =
    let within : c.loop-index.index < length c.watchers-places.result.now = omega (arith, c.loop-index-test.true) in
    place_inside (is_watcher c.args.stream.now) c.watchers-places.result.now c.args.queries.now c.loop-index.index 0 (c.watchers-places.ensures ∙ c.requires.read) within

pub is_left_over-requires-clause-prompt : goal.is_left_over-requires-clause-prompt
is_left_over-requires-clause-prompt g c =
    let within : c.loop-index.index < length c.watchers-places.result.now = omega (arith, c.loop-index-test.true) in
    let is = c.watchers-places.ensures ∙ c.requires.read in
    let there = place_inside (is_watcher c.args.stream.now) c.watchers-places.result.now c.args.queries.now c.loop-index.index 0 is within in
    subst (λ live. IsPrompt c.args.next (Some c.args.stream.now) (asked live)) (sym c.index-queries-place.is)
    (c.requires.prompt _ c.index-queries-place.result there)

pub is_left_over-requires-clause-reads : goal.is_left_over-requires-clause-reads
is_left_over-requires-clause-reads g c =
    let within : c.loop-index.index < length c.watchers-places.result.now = omega (arith, c.loop-index-test.true) in
    let is = c.watchers-places.ensures ∙ c.requires.read in
    let there = place_inside (is_watcher c.args.stream.now) c.watchers-places.result.now c.args.queries.now c.loop-index.index 0 is within in
    let watches = place_passes (is_watcher c.args.stream.now) (λ live. is_due_over_by (asked live) c.args.stream.now c.args.next) c.args.queries.now
    c.watchers-places.result.now is c.loop-index.index _ c.index-queries-place.result within refl there c.index-queries-place.is in
    (and_parts (asks_contents c.index-queries-place.result.policy) (reads c.args.stream.now c.index-queries-place.result.windows) watches).1

pub loop-index-preserved : goal.loop-index-preserved
loop-index-preserved g c =
    let within : c.loop-index.index < length c.watchers-places.result.now = omega (arith, c.loop-index-test.true) in
    let is = c.watchers-places.ensures ∙ c.requires.read in
    let there = place_inside (is_watcher c.args.stream.now) c.watchers-places.result.now c.args.queries.now c.loop-index.index 0 is within in
    fail_more (is_watcher c.args.stream.now) (λ live. is_due_over_by (asked live) c.args.stream.now c.args.next) c.args.queries.now
    c.watchers-places.result.now is c.args.number c.loop-index.index _ c.index-queries-place.result within refl there c.index-queries-place.is
    (left_false c.args.number _ _ (sym c.is_left_over.ensures ∙ c.if-is_left_over.false)) c.loop-index.invariant

pub returns-then-is_left_over : goal.returns-then-is_left_over
returns-then-is_left_over g c =
    let within : c.loop-index.index < length c.watchers-places.result.now = omega (arith, c.loop-index-test.true) in
    let is = c.watchers-places.ensures ∙ c.requires.read in
    let there = place_inside (is_watcher c.args.stream.now) c.watchers-places.result.now c.args.queries.now c.loop-index.index 0 is within in
    let left = left_true c.args.number _ _ (sym c.is_left_over.ensures ∙ c.if-is_left_over.true) in
    first_there (is_watcher c.args.stream.now) (λ live. is_due_over_by (asked live) c.args.stream.now c.args.next) c.args.queries.now
    c.watchers-places.result.now is c.args.number c.loop-index.index _ c.index-queries-place.result within refl there c.index-queries-place.is
    (get_index c.args.queries.now _ c.index-queries-place.result there c.index-queries-place.is) left.0 left.1 c.loop-index.invariant

pub returns : goal.returns
returns g c =
    let end : length c.watchers-places.result.now ≤ c.loop-index.index = omega (arith, c.loop-index-test.false) in
    none_there (is_watcher c.args.stream.now) (λ live. is_due_over_by (asked live) c.args.stream.now c.args.next) c.args.queries.now
    c.watchers-places.result.now (c.watchers-places.ensures ∙ c.requires.read) c.args.number c.loop-index.index end c.loop-index.invariant
