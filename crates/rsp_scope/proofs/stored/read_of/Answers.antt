use Rattle.std.proofs.Common.{◌+◌, pos, ◌+ℤ◌, ◌∙◌, sym, ap, drop, refl, arith}
use Rattle.std.proofs.lemmas.List.{at_drop_more}
use Rattle.rsp_multiset.specs.Weights.{only, times, weight}
use Rattle.rsp_terms.specs.Same.{fact_eq}
use Rattle.rsp_scope.proofs.Reading.{next_read, none_left}
use Rattle.rsp_scope.proofs.stored.read_of.Goals as goal

pub loop-fact-preserved : goal.loop-fact-preserved
loop-fact-preserved g c q =
    let facts = c.args.facts.now in
    let i = c.loop-fact.fact-index in
    let fact = c.fact-item.result in
    let here = at_drop_more (λ ys. times fact_eq ys q) facts i fact c.loop-fact-test.true
    ∙ ap (λ y. only (fact_eq q y) (pos 1) +ℤ times fact_eq (drop (i + 1) facts) q) (sym c.fact-item.is) in
    let once = ap (λ n. only (fact_eq q fact) n +ℤ times fact_eq (drop (i + 1) facts) q) c.in_ok-once.ensures.1 in
    next_read (g.R.Reader.is_read c.args.reader.now q) (times fact_eq (drop i facts) q)
    (only (fact_eq q fact) c.in_ok-once.once) (times fact_eq (drop (i + 1) facts) q)
    (weight fact_eq c.loop-fact.changes q) (weight fact_eq c.add_read.new.changes q) _
    (here ∙ sym once) (c.in_ok-add_read.ensures q) (c.loop-fact.invariant q)

pub returns : goal.returns
returns g c q =
    none_left (g.R.Reader.is_read c.args.reader.now q) (λ l. times fact_eq l q) c.args.facts.now c.loop-fact.fact-index
    (weight fact_eq c.loop-fact.changes q) _ refl (omega arith) (c.loop-fact.invariant q)
