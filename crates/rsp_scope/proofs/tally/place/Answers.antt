use Rattle.std.proofs.Common.{sym, ap, ◌∙◌}
use Rattle.rsp_multiset.specs.Weights.{sum_z}
use Rattle.rsp_scope.proofs.Tallies.{by_place, inserted}
use Rattle.rsp_scope.proofs.tally.place.Goals as goal

pub returns : goal.returns
returns c f =
    ap (λ es. sum_z f es) c.in_ok-insert.ensures.entries
    ∙ inserted by_place c.args.content.now.entries c.args.place c.args.graph (sym c.in_ok-insert.ensures.old ∙ c.in-None.is) f
