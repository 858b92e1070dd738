use Rattle.std.proofs.Common.{ap, ◌∙◌}
use Rattle.rsp_scope.specs.Kept.{needed}
use Rattle.rsp_scope.specs.Runs.{from, over, triples}
use Rattle.rsp_scope.proofs.Endings.{triples-from}
use Rattle.rsp_scope.proofs.streams.Streams.held_from.Goals as goal

pub returns : goal.returns
returns c =
    rw (← c.self.view_is)
    (c.triples_from.ensures
    ∙ (ap (λ l. over (from c.args.next triples) l) c.as_slice.ensures.value
    ∙ triples-from c.self.inside.ends.items (needed c.self.inside.cut c.self.inside.items.items) c.args.next c.self.invariant.tied))
