use Rattle.std.proofs.Common.{length, refl, sym, ◌∙◌, subst}
use Rattle.std.proofs.lemmas.Bool.{ltb-true}
use Rattle.std.proofs.lemmas.Option.{slice_get_read}
use Rattle.rsp_scope.specs.Contents.{Numbered}
use Rattle.rsp_scope.specs.Ends.{EndsAt}
use Rattle.rsp_engine.specs.Keeping.{watches_followed}
use Rattle.rsp_engine.proofs.KeptEnds.{given_end}
use Rattle.rsp_engine.proofs.retention.needs.Goals as goal

pub returns : goal.returns
returns g c same graph =
    let entry : Numbered = record { number = c.args.number; item = record { stream = c.args.stream.now; time = c.args.time; graph = graph } } in
    given_end c.args.queries.now c.args.place c.in-Some.live.now entry c.end_by.result c.args.most
    (slice_get_read c.args.queries.now (length c.args.queries.now) c.args.place c.in-Some.live.now refl
    (ltb-true c.args.place (length c.args.queries.now) (sym c.in-Some.ensures.lookup.0)) c.in-Some.ensures.lookup.1)
    (sym c.eq.ensures ∙ same)
    (subst (λ contents. EndsAt (watches_followed contents) entry c.end_by.result) c.as_slice.ensures.value
    (c.end_by.ensures graph))
