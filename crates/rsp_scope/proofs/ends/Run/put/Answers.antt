use Rattle.std.proofs.Common.{sum_by, ap, ◌∙◌, arith}
use Rattle.std.proofs.lemmas.List.Sums.{sum_by-cons, sum_by_push}
use Rattle.rsp_scope.proofs.ends.Run.put.Goals as goal

pub put_last-requires : goal.put_last-requires
put_last-requires c = c.ends_by.ensures c.if-ends_by.true

pub returns-then-ends_by-clause-ok : goal.returns-then-ends_by-clause-ok
returns-then-ends_by-clause-ok c f = ap (λ l. sum_by f l) c.in_ok-put_last.ensures.ok ∙ sum_by_push f c.args.self.now c.args.ending

pub put_first-requires : goal.put_first-requires
put_first-requires c = c.begins_from.ensures c.if-begins_from.true

pub returns-then-begins_from-clause-ok : goal.returns-then-begins_from-clause-ok
returns-then-begins_from-clause-ok c f =
    let all = ap (λ l. sum_by f l) c.in_ok-put_first.ensures.ok ∙ sum_by-cons f c.args.ending c.args.self.now in
    omega (arith, all)
