use Rattle.std.proofs.Common.{map, ap, ◌∙◌}
use Rattle.std.proofs.lemmas.Result.{IfOk-weaker}
use Rattle.rsp_algebra.specs.Meanings.{aggregations_of}
use Rattle.rsp_algebra.specs.Solutions.{group_of, with_aggregates}
use Rattle.rsp_eval.specs.Keys.{bucket_of}
use Rattle.rsp_eval.proofs.Groups.{same_groups}
use Rattle.rsp_eval.proofs.grouping.group_rows.Goals as goal

pub returns : goal.returns
returns c =
    let aggregates = aggregations_of c.args.aggregates.now in
    let group = group_of c.args.width c.args.keys.now c.args.rows.items in
    let firsts = rw c.deref.ensures.value at c.in_ok-firsts.ensures in
    IfOk-weaker c.aggregate_groups.result _ _ (λ made is.
    is
    ∙ (same_groups c.args.width aggregates (bucket_of c.in_ok-buckets.buckets) group c.in_ok-buckets.ensures c.in_ok-firsts.firsts.items
    ∙ ap (map (λ key. with_aggregates c.args.width aggregates (group key) key)) firsts)) c.aggregate_groups.ensures
