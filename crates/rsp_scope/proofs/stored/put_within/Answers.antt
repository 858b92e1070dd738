use Rattle.std.proofs.Common.{◌≡◌, ◌-◌, ◌∙◌, ap, drop, take, length, take_all, arith}
use Rattle.std.proofs.lemmas.List.{length-drop}
use Rattle.rsp_multiset.specs.Weights.{times}
use Rattle.rsp_terms.specs.Same.{fact_eq}
use Rattle.rsp_scope.proofs.Puts.{put-behind}
use Rattle.rsp_scope.proofs.stored.put_within.Goals as goal

pub returns-clause-change : goal.returns-clause-change
returns-clause-change c q =
    let whole : take (length c.as_slice.result.now - c.len-before.result) (drop c.len-before.result c.as_slice.result.now)
    ≡ drop c.len-before.result c.as_slice.result.now
    = take_all (length c.as_slice.result.now - c.len-before.result) (drop c.len-before.result c.as_slice.result.now)
    (omega (arith, length-drop c.len-before.result c.as_slice.result.now)) in
    put-behind c.args.facts.now.keys c.put_all.new.facts.keys c.len-before.result q _ c.len-before.ensures.len c.in_ok-put_all.ensures.kept
    (c.in_ok-change.ensures q ∙ ap (λ l. times fact_eq l q) (whole ∙ ap (λ l. drop c.len-before.result l) c.as_slice.ensures.keys))
