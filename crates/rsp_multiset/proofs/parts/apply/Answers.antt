use Rattle.std.proofs.Common.{arith}
use Rattle.std.proofs.lemmas.Int.{ints}
use Rattle.rsp_multiset.specs.Rows.{row_eq}
use Rattle.rsp_multiset.specs.Weights.{weight}
use Rattle.std.proofs.lemmas.Result.{on_ok_weaker}
use Rattle.rsp_multiset.proofs.Signs.{above_or_below}
use Rattle.rsp_multiset.proofs.parts.apply.Goals as goal

pub returns : goal.returns
returns g c =
    on_ok_weaker
    c.add_rows.result
    (λ h q.
    let sum = h q in
    let taken = c.take_rows.ensures q in
    let both = above_or_below (weight (row_eq g.V.PartialEq.eq) c.args.changes.now q) in
    omega (arith, ints))
    c.add_rows.ensures
