use Rattle.std.proofs.Common.{ap, ◌∙◌, List}
use Rattle.std.specs.Prelude.{Option}
use Rattle.rsp_terms.specs.declared.term.Term.{Term}
use Rattle.rsp_aggregates.specs.Folds.{plain_aggregate, once}
use Rattle.rsp_aggregates.specs.declared.plain.PlainFold.{PlainFold}
use Rattle.rsp_aggregates.proofs.distinct.DistinctFoldFold.fresh.Goals as goal

pub returns-clause-aggregate : goal.returns-clause-aggregate
returns-clause-aggregate c =
    ap {B = List (Option Term) → Option Term} (λ (fold : PlainFold) (values : List (Option Term)). plain_aggregate fold (once values)) c.new.ensures.fold
    ∙ ap {B = List (Option Term) → Option Term} (λ (aggregate : List (Option Term) → Option Term) (values : List (Option Term)). aggregate (once values)) c.in_ok-fold.ensures.aggregate
