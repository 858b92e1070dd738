use Rattle.std.proofs.Common.{◌≡◌, false, map, nat_le, subst}
use Rattle.std.specs.Option.{option_map_or}
use Rattle.rsp_scope.specs.Contents.{Numbered}
use Rattle.rsp_scope.specs.Needed.{is_needed}
use Rattle.rsp_scope.specs.Moves.{Followed}
use Rattle.rsp_engine.specs.Contents.{watches}
use Rattle.rsp_engine.specs.Inside.{IsReady, live_of, state_of}
use Rattle.rsp_engine.specs.Readers.{IsEndBy}
use Rattle.rsp_engine.specs.Stands.{Live, cut_of, next_in}
use Rattle.rsp_engine.proofs.BehindReport.{all_watches, watches_same}
use Rattle.rsp_engine.proofs.EndsRead.{ends_read}
use Rattle.rsp_engine.proofs.Readiness.{unmapped}
use Rattle.rsp_engine.proofs.engine.Engine.end_of.Goals as goal

pub returns : goal.returns
returns g c graph n =
    let sound : IsReady g.A.Answer.node g.A.Answer.width g.A.Answer.facts g.A.Answer.spent c.self.inside = (c.self.invariant (rw (← c.self.view_is) at c.requires.ready)).0 in
    let read = (c.self.invariant (rw (← c.self.view_is) at c.requires.ready)).1.0 in
    let here = state_of g.A.Answer.facts c.self.inside in
    let followed = all_watches here.queries (next_in here) c.self.inside.slack c.self.inside.streams.accepted (cut_of here) c.self.inside.arrived sound.state.lives in
    let entry : Numbered = record { number = c.self.inside.streams.accepted; item = record { stream = c.args.stream.now; time = c.args.time; graph = graph } } in
    let ends = subst (λ ws. IsEndBy ws entry.number c.args.time c.end_of.result) (read.windows c.args.stream.now) (rw c.accepted.ensures at c.end_of.ensures) in
    let found = ends_read c.self.inside.queries.items entry c.end_of.result
    (unmapped (λ (l : Live). map (λ (seen : Followed). seen.watch) l.contents ≡ watches l.first l.windows) (live_of g.A.Answer.facts) c.self.inside.queries.items followed)
    ends n in
    rw (← c.self.view_is)
    (subst (λ ws. is_needed n ws entry ≡ option_map_or (λ e. nat_le n e) c.end_of.result false)
    (watches_same g.A.Answer.facts c.self.inside.queries.items followed) found)
