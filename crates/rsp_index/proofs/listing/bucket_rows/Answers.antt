use Rattle.std.proofs.Common.{[], ◌++◌, map, Some, length, ap, ◌∙◌, arith, ◌≡◌}
use Rattle.std.specs.Option.{unwrap_or, option_copied}
use Rattle.rsp_index.specs.Buckets.{bucket_of}
use Rattle.rsp_index.specs.Kept.{counted}
use Rattle.rsp_index.proofs.listing.bucket_rows.Goals as goal

pub returns-in_err-list_entries-clause-cost : goal.returns-in_err-list_entries-clause-cost
returns-in_err-list_entries-clause-cost g c =
    let whole : unwrap_or (option_copied c.get.result) [] ≡ bucket_of {V = g.row.V.Denot} g.V.PartialEq.eq c.args.buckets.now.entries (map {B = _} Some c.args.key.now) =
    ap (λ o. unwrap_or o []) c.get.ensures.value ∙ ap (bucket_of {V = g.row.V.Denot} g.V.PartialEq.eq c.args.buckets.now.entries) c.in_ok-cells.ensures in
    let long = ap length whole in
    omega (arith, c.list_entries.ensures.cost, long)

pub returns-clause-rows : goal.returns-clause-rows
returns-clause-rows g c =
    let whole : unwrap_or (option_copied c.get.result) [] ≡ bucket_of {V = g.row.V.Denot} g.V.PartialEq.eq c.args.buckets.now.entries (map {B = _} Some c.args.key.now) =
    ap (λ o. unwrap_or o []) c.get.ensures.value ∙ ap (bucket_of {V = g.row.V.Denot} g.V.PartialEq.eq c.args.buckets.now.entries) c.in_ok-cells.ensures in
    c.in_ok-list_entries.ensures.rows ∙ (λ i. counted (c.new-rows.ensures.items i) ++ whole i)

pub returns-clause-cost : goal.returns-clause-cost
returns-clause-cost g c =
    let whole : unwrap_or (option_copied c.get.result) [] ≡ bucket_of {V = g.row.V.Denot} g.V.PartialEq.eq c.args.buckets.now.entries (map {B = _} Some c.args.key.now) =
    ap (λ o. unwrap_or o []) c.get.ensures.value ∙ ap (bucket_of {V = g.row.V.Denot} g.V.PartialEq.eq c.args.buckets.now.entries) c.in_ok-cells.ensures in
    let long = ap length whole in
    omega (arith, c.list_entries.ensures.cost, long)
