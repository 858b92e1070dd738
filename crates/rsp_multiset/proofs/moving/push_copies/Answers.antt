use Rattle.std.proofs.Common.{◌≡◌, ◌∷◌, [], ◌++◌, ◌+ℤ◌, pos, ap, ◌∙◌, arith}
use Rattle.rsp_multiset.specs.Rows.{row_eq}
use Rattle.rsp_multiset.specs.Weights.{only, times}
use Rattle.rsp_multiset.proofs.GivenRows.{copied}
use Rattle.rsp_multiset.proofs.moving.push_copies.Goals as goal

pub loop-preserved : goal.loop-preserved
loop-preserved g c = λ q.
    copied
    (row_eq g.V.PartialEq.eq)
    c.loop.rows.items
    _
    c.args.row.now
    q
    c.loop.counter
    _
    (c.in_ok-push.ensures.items ∙ ap (λ row. c.loop.rows.items ++ row ∷ []) c.in_ok-share.ensures)
    (c.loop.invariant q)

pub returns : goal.returns
returns g c = λ q.
    let eq = row_eq g.V.PartialEq.eq in
    let bound = c.loop.auto.counter-end in
    let end : c.loop.counter ≡ c.args.copies = omega (arith, c.loop-test.false, bound) in
    c.loop.invariant q ∙ ap (λ n. times eq c.args.rows.now.items q +ℤ only (eq q c.args.row.now) (pos n)) end
