use Rattle.std.proofs.Common.{◌+ℤ◌, sym, ap, ◌∙◌}
use Rattle.rsp_multiset.specs.Rows.{row_eq}
use Rattle.rsp_multiset.specs.Weights.{only, times, above}
use Rattle.rsp_multiset.proofs.GivenRows.{copied, none_more}
use Rattle.rsp_multiset.proofs.moving.push_incoming.Goals as goal

pub returns-in_default : goal.returns-in_default
returns-in_default g c = λ q.
    let eq = row_eq g.V.PartialEq.eq in
    let none = rw c.in_default.is at c.further_copies.ensures.none in
    none_more (eq q c.args.row) (times eq c.args.rows.now.items q) (above c.args.count) none

pub returns : goal.returns
returns g c = λ q.
    let eq = row_eq g.V.PartialEq.eq in
    let before = times eq c.args.rows.now.items q in
    copied eq c.push_copies.new.rows.items _ c.args.row q c.in-Some.copies before c.in_ok-push.ensures.items (c.in_ok-push_copies.ensures q)
    ∙ ap (λ n. before +ℤ only (eq q c.args.row) n) (sym c.in-Some.ensures.some)
