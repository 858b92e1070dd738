use Rattle.std.proofs.Common.{◌∙◌}
use Rattle.rsp_number.proofs.Writing.{ends-here, zero-goes, rest-digits}
use Rattle.rsp_number.proofs.written.without_last_zeros.Goals as goal

pub returns-then-last-ne48-clause-shortest : goal.returns-then-last-ne48-clause-shortest
returns-then-last-ne48-clause-shortest c =
    ends-here _ _ _ c.in-Some.ensures.cases.0 c.loop-last.invariant.digits c.if-last-ne48.true

pub loop-last-preserved : goal.loop-last-preserved
loop-last-preserved c = record {
  digits = rest-digits _ _ _ c.in-Some.ensures.cases.0 c.loop-last.invariant.digits;
  same = λ negative n.
      c.loop-last.invariant.same negative n ∙ zero-goes _ _ _ c.in-Some.ensures.cases.0 c.if-last-ne48.false negative n;
}
