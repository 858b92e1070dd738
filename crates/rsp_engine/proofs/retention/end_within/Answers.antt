use Rattle.std.proofs.Common.{length, refl, sym, subst}
use Rattle.std.proofs.lemmas.Option.{slice_get_read}
use Rattle.rsp_scope.specs.Contents.{Numbered}
use Rattle.rsp_scope.specs.Ends.{EndsAt}
use Rattle.rsp_engine.specs.Keeping.{watches_followed}
use Rattle.rsp_engine.proofs.KeptEnds.{given_end}
use Rattle.rsp_engine.proofs.retention.end_within.Goals as goal

pub returns-then-eq : goal.returns-then-eq
returns-then-eq g c graph =
    let entry : Numbered = record { number = c.args.number; item = record { stream = c.args.stream.now; time = c.args.time; graph = graph } } in
    let live = c.index-queries-place.result in
    given_end c.args.queries.now c.loop-place.place live entry c.end_by-until.result c.args.most
    (slice_get_read c.args.queries.now (length c.args.queries.now) c.loop-place.place live refl c.loop-place-test.true c.index-queries-place.is)
    (sym c.if-eq.ensures)
    (subst (λ contents. EndsAt (watches_followed contents) entry c.end_by-until.result) c.as_slice.ensures.value
    (c.end_by-until.ensures graph))
