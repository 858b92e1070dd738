use Rattle.std.proofs.Common.{◌≡◌, pos, ap, rules, arith}
use Rattle.std.proofs.lemmas.Int.{ints}
use Rattle.std.proofs.lemmas.Map.Iter.{rest_more, rest_all}
use Rattle.rsp_multiset.specs.Rows.{row_eq}
use Rattle.rsp_multiset.specs.Variables.{cells_at}
use Rattle.rsp_multiset.specs.Weights.{only, total, weight}
use Rattle.rsp_multiset.proofs.GivenRows.{cut_more}
use Rattle.rsp_multiset.proofs.moving.changes_at.Goals as goal

pub loop-row-init : goal.loop-row-init
loop-row-init g c = λ q.
    let eq = row_eq g.V.PartialEq.eq in
    let empty = ap (λ es. weight eq es q) c.new-cut.ensures in
    let start : c.into_iter-row-iterator.result ≡ c.args.changes = search rules in
    let whole = ap (total (λ row. only (eq q (cells_at c.args.variables.now row)) (pos 1))) start in
    omega (arith, ints, empty, whole)

pub loop-row-preserved : goal.loop-row-preserved
loop-row-preserved g c = λ q.
    cut_more
    g.V.PartialEq.eq
    c.args.variables.now
    c.loop-row.cut
    c.add.new.self
    c.loop-row.row-iterator
    c.next.new.self
    c.in-Some.row
    c.in_ok-into_cells_at.field-0
    c.in-Some.count
    _
    q
    (rest_more (λ p. p) c.loop-row.row-iterator c.next.new.self c.next.result (c.in-Some.row, c.in-Some.count) c.in-Some.is c.next.ensures.steps)
    c.in_ok-into_cells_at.ensures
    (c.in_ok-add.ensures.ok q)
    (c.loop-row.invariant q)

pub returns : goal.returns
returns g c = λ q.
    let none = rest_all (λ p. p) c.loop-row.row-iterator c.next.new.self c.next.result c.in-None.is c.next.ensures.steps in
    let end = ap (total (λ row. only (row_eq g.V.PartialEq.eq q (cells_at c.args.variables.now row)) (pos 1))) none in
    let before = c.loop-row.invariant q in
    omega (arith, ints, end, before)
