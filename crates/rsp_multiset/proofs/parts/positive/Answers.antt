use Rattle.std.proofs.Common.{List, Option, ℤ, ap, arith}
use Rattle.std.proofs.lemmas.Int.{ints}
use Rattle.rsp_multiset.specs.Rows.{row_eq}
use Rattle.rsp_multiset.specs.Weights.{weight}
use Rattle.rsp_multiset.proofs.parts.positive.Goals as goal

pub returns : goal.returns
returns g c = λ q.
    let sum = c.in_ok-add_rows.ensures q in
    let none = ap (λ (l : List (List (Option g.row.V.Denot) × ℤ)). weight (row_eq g.V.PartialEq.eq) l q) c.new-bag.ensures in
    omega (arith, ints)
