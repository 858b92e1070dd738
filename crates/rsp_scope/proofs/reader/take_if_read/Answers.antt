use Rattle.std.proofs.Common.{◌∙◌, sym, arith}
use Rattle.std.proofs.lemmas.Int.{ints}
use Rattle.std.proofs.lemmas.Result.{on_ok_weaker}
use Rattle.rsp_scope.proofs.Reading.{read_one, unread_one}
use Rattle.rsp_scope.proofs.reader.take_if_read.Goals as goal

pub returns-then-reads : goal.returns-then-reads
returns-then-reads g c =
    on_ok_weaker c.add.result
    (λ added q.
    let one = read_one (g.R.Reader.is_read c.args.reader.now) c.args.fact q c.args.count (sym c.reads.ensures ∙ c.if-reads.true) in
    let sum = added q in
    omega (arith, ints, one, sum))
    c.add.ensures.ok

pub returns : goal.returns
returns g c q =
    let none = unread_one (g.R.Reader.is_read c.args.reader.now) c.args.fact q c.args.count (sym c.reads.ensures ∙ c.if-reads.false) in
    omega (arith, ints, none)
