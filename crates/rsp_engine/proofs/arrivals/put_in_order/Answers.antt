use Rattle.std.proofs.Common.{rules, ◌≡◌, ◌∷◌, sym, subst}
use Rattle.std.specs.List.{insert}
use Rattle.std.specs.List.Sorted.{IsPermutation}
use Rattle.std.proofs.lemmas.List.Sorted.{IsPermutation-insert}
use Rattle.rsp_engine.proofs.InOrder.{pushed_moved}
use Rattle.rsp_engine.proofs.arrivals.put_in_order.Goals as goal

pub returns-then-is_latest-clause-put : goal.returns-then-is_latest-clause-put
returns-then-is_latest-clause-put c =
    subst (IsPermutation (c.args.time ∷ c.args.times.now)) (sym c.in_ok-push.ensures.ok) (pushed_moved c.args.times.now c.args.time)

pub returns-clause-put : goal.returns-clause-put
returns-clause-put c =
    let put : c.from_vec.result ≡ insert c.args.times.now c.place_of-place.result c.args.time = search rules in
    subst (IsPermutation (c.args.time ∷ c.args.times.now)) (sym put) (IsPermutation-insert c.args.times.now c.place_of-place.result c.args.time)
