use Rattle.std.proofs.Common.{◌∙◌, sym, ap, arith}
use Rattle.std.proofs.lemmas.Int.{ints}
use Rattle.std.proofs.lemmas.Result.{on_ok_weaker}
use Rattle.rsp_multiset.specs.Weights.{only}
use Rattle.rsp_terms.specs.Same.{fact_eq}
use Rattle.rsp_scope.proofs.Reading.{read_one, unread_one}
use Rattle.rsp_scope.proofs.reader.add_read.Goals as goal

pub returns-then-reads : goal.returns-then-reads
returns-then-reads g c =
    on_ok_weaker c.add.result
    (λ added q.
    let one = read_one (g.R.Reader.is_read c.args.reader.now) c.args.fact.now q c.args.count (sym c.reads.ensures ∙ c.if-reads.true) in
    let same = ap (λ y. only (fact_eq q y) c.args.count) c.in_ok-share.ensures in
    let sum = added q in
    omega (arith, ints, one, same, sum))
    c.add.ensures.ok

pub returns : goal.returns
returns g c q =
    let none = unread_one (g.R.Reader.is_read c.args.reader.now) c.args.fact.now q c.args.count (sym c.reads.ensures ∙ c.if-reads.false) in
    omega (arith, ints, none)
