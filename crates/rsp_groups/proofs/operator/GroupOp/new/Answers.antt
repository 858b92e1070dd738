use Rattle.std.proofs.Common.{map}
use Rattle.std.proofs.lemmas.List.{length-map}
use Rattle.rsp_groups.proofs.operator.GroupOp.new.Goals as goal

pub returns-clause-stands : goal.returns-clause-stands
returns-clause-stands g c = λ domain.
    c.in_ok-groups.ensures domain (map (λ a. g.C.Computed.of a.argument) c.args.grouping.aggregates.items) (length-map c.args.grouping.aggregates.items (λ a. g.C.Computed.of a.argument))
