use Rattle.std.proofs.Common.{◌≡◌, ◌∷◌, [], refl, ap, rules, arith}
use Rattle.std.specs.Cmp.Lexicographic.{lists_equiv, options_equiv}
use Rattle.std.proofs.lemmas.Int.{ints}
use Rattle.std.proofs.lemmas.Map.Iter.{rest_more, rest_all}
use Rattle.rsp_multiset.specs.Rows.{row_eq}
use Rattle.rsp_multiset.specs.Weights.{weight, times, above}
use Rattle.rsp_multiset.proofs.Signs.{part, part-rest, weight-part}
use Rattle.rsp_multiset.proofs.moving.incoming_rows.Goals as goal

pub loop-row-init : goal.loop-row-init
loop-row-init g c = λ q.
    let eq = row_eq g.V.PartialEq.eq in
    let empty = ap (λ rows. times eq rows q) c.new-rows.ensures.items in
    let start : c.into_iter-row-iterator.result ≡ c.args.changes = search rules in
    let whole = ap (λ es. weight eq (part above es) q) start in
    omega (arith, ints, empty, whole)

pub loop-row-preserved : goal.loop-row-preserved
loop-row-preserved g c = λ q.
    let first = rest_more (λ p. p) c.loop-row.row-iterator c.next.new.self c.next.result (c.in-Some.row, c.in-Some.count) c.in-Some.is c.next.ensures.steps in
    let rest = part-rest (row_eq g.V.PartialEq.eq) above c.loop-row.row-iterator c.next.new.self c.in-Some.row c.in-Some.count first q in
    let step = c.in_ok-push_incoming.ensures q in
    let before = c.loop-row.invariant q in
    omega (arith, ints, rest, step, before)

pub returns : goal.returns
returns g c = λ q.
    let eq = row_eq g.V.PartialEq.eq in
    let none = rest_all (λ p. p) c.loop-row.row-iterator c.next.new.self c.next.result c.in-None.is c.next.ensures.steps in
    let end = ap (λ es. weight eq (part above es) q) none in
    let before = c.loop-row.invariant q in
    let all = weight-part (lists_equiv (options_equiv g.met.V.Eq.laws)) above refl c.args.changes c.into_counts-row-items.ensures.changes.distinct q in
    omega (arith, ints, end, before, all)
