use borrow.Author.Rules.{scaled_Fits}
use Rattle.std.proofs.Common.{rules, ◌≤◌, ◌<◌, ◌∙◌, arith, get_or, length}
use Rattle.rsp_engine.specs.Inside.{asked}
use Rattle.rsp_engine.specs.Readers.{is_watcher}
use Rattle.rsp_engine.specs.Watched.{IsMoved}
use Rattle.rsp_engine.specs.Watching.{IsWatching}
use Rattle.rsp_engine.proofs.PlacesRead.{all_done, holds_there, more_done, none_done, place_inside, place_there}
use Rattle.rsp_engine.proofs.arrivals.attend.Goals as goal

pub loop-index-init : goal.loop-index-init
loop-index-init g c = none_done (IsMoved c.args.stream.now c.args.time c.args.from) c.args.queries.now

pub offset_bounds-queries-place : goal.offset_bounds-queries-place
offset_bounds-queries-place g c =
    let within : c.loop-index.index < length c.watchers-places.result.now = omega (arith, c.loop-index-test.true) in
    let there : get_or c.watchers-places.result.now c.loop-index.index 0 < length c.args.queries.now =
    place_inside (is_watcher c.args.stream.now) c.watchers-places.result.now c.args.queries.now c.loop-index.index 0 (c.watchers-places.ensures ∙ c.requires.read) within in
    scaled_Fits (get_or c.watchers-places.result.now c.loop-index.index 0) (length c.args.queries.now) _ there (search rules)

pub bounds-queries-place : goal.bounds-queries-place
bounds-queries-place g c =
    let within : c.loop-index.index < length c.watchers-places.result.now = omega (arith, c.loop-index-test.true) in
    place_there (IsMoved c.args.stream.now c.args.time c.args.from) (is_watcher c.args.stream.now) c.watchers-places.result.now c.args.queries.now
    c.loop-index.queries c.loop-index.index 0 (c.watchers-places.ensures ∙ c.requires.read) within c.loop-index.invariant

pub watch_query-requires-clause-watching : goal.watch_query-requires-clause-watching
watch_query-requires-clause-watching g c =
    let within : c.loop-index.index < length c.watchers-places.result.now = omega (arith, c.loop-index-test.true) in
    holds_there (IsMoved c.args.stream.now c.args.time c.args.from) (is_watcher c.args.stream.now) c.watchers-places.result.now c.args.queries.now
    c.loop-index.queries c.loop-index.index 0 (c.watchers-places.ensures ∙ c.requires.read) within c.loop-index.invariant
    (λ live. IsWatching (asked live)) c.index-queries-place.result c.requires.watching

pub loop-index-preserved : goal.loop-index-preserved
loop-index-preserved g c =
    let within : c.loop-index.index < length c.watchers-places.result.now = omega (arith, c.loop-index-test.true) in
    more_done (IsMoved c.args.stream.now c.args.time c.args.from) (is_watcher c.args.stream.now) c.watchers-places.result.now c.args.queries.now
    c.loop-index.queries c.loop-index.index 0 (c.watchers-places.ensures ∙ c.requires.read) within c.loop-index.invariant
    c.index-queries-place.result c.watch_query.new.live
    (record { parts = c.in_ok-watch_query.ensures.parts; watched = c.in_ok-watch_query.ensures.watched; sought = c.in_ok-watch_query.ensures.sought })

pub returns : goal.returns
returns g c =
    let end : length c.watchers-places.result.now ≤ c.loop-index.index = omega (arith, c.loop-index-test.false) in
    all_done (IsMoved c.args.stream.now c.args.time c.args.from) (is_watcher c.args.stream.now) c.watchers-places.result.now c.args.queries.now
    c.loop-index.queries c.loop-index.index (c.watchers-places.ensures ∙ c.requires.read) end c.loop-index.invariant
