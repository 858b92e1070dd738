use Rattle.std.proofs.Common.{ap, sym, ◌∙◌, arith}
use Rattle.std.proofs.lemmas.Int.{ints}
use Rattle.rsp_multiset.specs.Weights.{sum_z}
use Rattle.rsp_scope.proofs.LaneLaws.{at_slot}
use Rattle.rsp_scope.proofs.Orders.{fresh-kept, passing}
use Rattle.rsp_scope.proofs.tally.take_none.Goals as goal

pub returns-clause-content : goal.returns-clause-content
returns-clause-content c f =
    let none = sym (fresh-kept c.args.gate.now c.args.cut c.args.items.now.items 0 f (λ k place item below. absurd (omega (arith, below))) (omega arith))
    ∙ ap (λ l. sum_z (at_slot (passing c.args.gate.now c.args.cut f) c.args.items.now.items) l) c.requires
    in
    omega (arith, ints, none)
