use Rattle.std.proofs.Common.{◌∙◌, false, ap, arith, subst, sym}
use Rattle.std.specs.Prelude.{bytes_eq, slice_get}
use Rattle.std.specs.Option.{option_map_or}
use Rattle.rsp_engine.specs.declared.live_query.StreamWindow.{StreamWindow}
use Rattle.rsp_engine.specs.declared.live_query.LiveQuery.{LiveQuery}
use Rattle.rsp_engine.specs.Inside.{Parts, parts_of}
use Rattle.rsp_engine.specs.Watched.{AreWatchedWith}
use Rattle.rsp_engine.specs.Watching.{IsPolicy}
use Rattle.rsp_engine.proofs.WatchedWith.{all_so_far, all_watched, more_so_far, so_far_long, watched_before}
use Rattle.rsp_engine.proofs.arrivals.watch_query.Goals as goal

pub watch_window-requires-clause-watched : goal.watch_window-requires-clause-watched
watch_window-requires-clause-watched g c =
    let live = c.args.live.now in
    watched_before c.args.stream.now c.args.time c.args.from c.loop-window.window live.windows live.watched.items
    c.loop-window.live.watched.items c.index_mut.result.now c.loop-window.invariant.watched
    (omega (
      arith,
      live.watched.ok.0,
      so_far_long c.args.stream.now c.args.time c.args.from c.loop-window.window live.windows live.watched.items
          c.loop-window.live.watched.items c.loop-window.invariant.watched,
    )) c.index_mut.ensures.value c.requires.watching.watched

pub loop-window-preserved : goal.loop-window-preserved
loop-window-preserved g c =
    let live = c.args.live.now in
    let windows = ap (λ p. p.query.reading.windows) c.loop-window.invariant.parts in
    let over = c.is_over-over.ensures
    ∙ ap (λ ws. option_map_or (λ (w : StreamWindow). bytes_eq c.args.stream.now w.stream) (slice_get ws c.loop-window.window) false)
    (c.as_slice.ensures ∙ windows) in
    record {
      parts = c.loop-window.invariant.parts;
      watched =
          more_so_far c.args.stream.now c.args.time c.args.from c.loop-window.window live.windows live.watched.items
          c.loop-window.live.watched.items c.index_mut.result.now c.loop-window.invariant.watched
          (omega (
            arith,
            live.watched.ok.0,
            so_far_long c.args.stream.now c.args.time c.args.from c.loop-window.window live.windows live.watched.items
                c.loop-window.live.watched.items c.loop-window.invariant.watched,
          )) c.index_mut.ensures.value c.is_over-over.result c.watch_window.new.watched over
          c.in_ok-watch_window.ensures.window c.in_ok-watch_window.ensures.watched c.in_ok-watch_window.ensures.up_to
          c.in_ok-watch_window.ensures.fresh c.in_ok-watch_window.ensures.told;
    }

pub look-requires-clause-policy : goal.look-requires-clause-policy
look-requires-clause-policy g c =
    subst (λ (p : Parts g.row.A.Denot). IsPolicy p.query.reading.policy) (sym c.loop-window.invariant.parts) c.requires.watching.policy

pub look-requires-clause-watched : goal.look-requires-clause-watched
look-requires-clause-watched g c =
    let live = c.args.live.now in
    all_watched c.args.stream.now c.args.time c.args.from live.windows live.watched.items c.loop-window.live.watched.items
    (all_so_far c.args.stream.now c.args.time c.args.from c.loop-window.window live.windows live.watched.items
    c.loop-window.live.watched.items c.loop-window.invariant.watched (omega (arith, live.watched.ok.0))) c.requires.watching.watched

pub returns-clause-parts : goal.returns-clause-parts
returns-clause-parts g c = ap (λ (l : LiveQuery g.row.A.Denot). parts_of l) c.look.ensures.same ∙ c.loop-window.invariant.parts

pub returns-clause-watched : goal.returns-clause-watched
returns-clause-watched g c =
    let live = c.args.live.now in
    subst (AreWatchedWith c.args.stream.now c.args.time c.args.from live.windows live.watched.items)
    (sym (ap (λ (l : LiveQuery g.row.A.Denot). l.watched.items) c.look.ensures.same))
    (all_so_far c.args.stream.now c.args.time c.args.from c.loop-window.window live.windows live.watched.items
    c.loop-window.live.watched.items c.loop-window.invariant.watched (omega (arith, live.watched.ok.0)))
