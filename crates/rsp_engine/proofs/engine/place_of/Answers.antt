use Rattle.std.proofs.Common.{◌∙◌, ap, bytes_eq, sym}
use Rattle.rsp_engine.specs.declared.live_query.LiveQuery.{LiveQuery}
use Rattle.std.specs.Cmp.Lexicographic.{bytes_decides}
use Rattle.rsp_engine.proofs.Named.{get_index}
use Rattle.rsp_engine.proofs.engine.place_of.Goals as goal

pub returns-then-eq : goal.returns-then-eq
returns-then-eq g c =
    let live = c.index-queries-place.result in
    (live, get_index c.args.queries.now c.loop-place.place live c.loop-place-test.true c.index-queries-place.is, (bytes_decides live.name c.args.name.now).0 (ap (λ (l : LiveQuery _). bytes_eq l.name c.args.name.now) c.index-queries-place.is ∙ (sym c.eq.ensures ∙ c.if-eq.true)))
