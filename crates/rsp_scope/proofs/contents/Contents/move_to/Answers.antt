use Rattle.std.proofs.Common.{◌≡◌, Some, [], filter, refl, ap, subst, ◌∙◌}
use Rattle.rsp_scope.specs.Inside.{followed_of}
use Rattle.rsp_scope.specs.Moves.{Moves, Placed, is_after}
use Rattle.rsp_scope.proofs.Follows.{moved}
use Rattle.rsp_scope.proofs.Tallies.{moved-then, took-as}
use Rattle.rsp_scope.proofs.contents.Contents.move_to.Goals as goal

pub returns-clause-moved : goal.returns-clause-moved
returns-clause-moved c =
    let same : c.feed.new.tally.spot ≡ c.self.inside.tally.spot = c.in_ok-feed.ensures.spot ∙ c.in_ok-let_go.ensures.spot in
    let reached = rw (← c.self.view_is) at c.requires.reached in
    rw (← c.self.view_is) (λ items more seen has.
    moved (followed_of c.self.inside)
    (record {
      watch = record { shape = c.self.inside.window; spot = c.feed.new.tally.spot; stream = c.self.inside.stream; first = c.self.inside.first };
      at = Some c.args.t;
      accepted = c.accepted-self-inside.result;
      placed = c.feed.new.tally.content.entries;
      counts = c.feed.new.tally.counts;
    })
    c.args.t
    items
    more
    c.args.streams.now
    c.feed.new.change
    c.opening_at-opening.ensures.slide
    reached
    (λ i. record { shape = c.self.inside.window; spot = same i; stream = c.self.inside.stream; first = c.self.inside.first })
    refl
    c.accepted-self-inside.ensures
    (took-as _ _ c.args.streams.now.items _ _ c.feed.new.tally.content.entries
    (λ i. record {
      stream = c.in_ok-share.ensures i;
      first = c.self.inside.first;
      opening = c.opening_at-opening.ensures.opening i;
      until = c.args.t;
      seen = c.self.inside.accepted;
      since = c.self.inside.at;
    })
    (c.in_ok-let_go.ensures.left
    ∙ ap (λ o. filter (λ (e : Placed). is_after o e.0.0) c.self.inside.tally.content.entries) c.opening_at-opening.ensures.opening)
    c.in_ok-feed.ensures.content)
    (moved-then c.self.inside.tally.spot c.let_go.new.tally.spot c.self.inside.tally.content.entries c.let_go.new.tally.content.entries c.feed.new.tally.content.entries
    c.self.inside.tally.counts
    c.let_go.new.tally.counts
    c.feed.new.tally.counts
    []
    c.let_go.new.change
    c.feed.new.change
    c.in_ok-let_go.ensures.spot
    (subst (λ d. Moves c.self.inside.tally.spot c.self.inside.tally.content.entries c.let_go.new.tally.content.entries c.self.inside.tally.counts c.let_go.new.tally.counts d c.let_go.new.change) c.new-change.ensures c.in_ok-let_go.ensures.moves)
    c.in_ok-feed.ensures.moves)
    seen
    has)
