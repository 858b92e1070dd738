use Rattle.std.proofs.Common.{[], ◌∷◌, ◌++◌, ◌∙◌}
use Rattle.rsp_scope.proofs.lanes.put_last.Goals as goal

pub returns-clause-items : goal.returns-clause-items
returns-clause-items c =
    c.push_back_reserved.ensures.items ∙ (λ i. c.args.slots.now.items ++ record { place = c.args.place; peak = c.peak_with-peak.ensures i } ∷ [])
