use Rattle.std.proofs.Common.{◌≡◌, ◌+ℤ◌, arith}
use Rattle.std.proofs.lemmas.Int.{ints}
use Rattle.rsp_multiset.specs.Weights.{only, weight}
use Rattle.rsp_multiset.proofs.Held.{weight-last}
use Rattle.rsp_terms.specs.Same.{fact_eq}
use Rattle.rsp_scope.proofs.Reading.{next_read}
use Rattle.rsp_scope.proofs.reader.take_read.Goals as goal

pub loop-fact-preserved : goal.loop-fact-preserved
loop-fact-preserved g c q =
    let last = only (fact_eq q c.in-Some.fact) c.in-Some.count in
    let split = weight-last fact_eq c.loop-fact.changes c.pop.new.self c.in-Some.fact c.in-Some.count c.in-Some.ensures.entries q in
    let turned : weight fact_eq c.loop-fact.changes q ≡ last +ℤ weight fact_eq c.pop.new.self q = omega (arith, ints, split) in
    next_read (g.R.Reader.is_read c.args.reader.now q) (weight fact_eq c.loop-fact.changes q) last (weight fact_eq c.pop.new.self q)
    (weight fact_eq c.loop-fact.read q) (weight fact_eq c.take_if_read.new.read q) _
    turned (c.in_ok-take_if_read.ensures q) (c.loop-fact.invariant q)
