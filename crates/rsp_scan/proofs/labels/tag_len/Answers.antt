use Rattle.std.proofs.Common.{◌∙◌, sym}
use Rattle.rsp_scan.specs.Scans.{tag_machine}
use Rattle.rsp_scan.proofs.Best.{stops, goes, is_read, end_within}
use Rattle.rsp_scan.proofs.labels.tag_len.Goals as goal

pub returns-in_default-clause-value : goal.returns-in_default-clause-value
returns-in_default-clause-value c =
    sym (stops tag_machine c.loop-place.state c.args.text.now c.loop-place.place c.loop-place.end c.loop-place-test.true (sym c.next_of_tag.ensures ∙ c.in_default.is))
    ∙ c.loop-place.invariant.best

pub loop-place-preserved : goal.loop-place-preserved
loop-place-preserved c = record {
  best =
      rw c.furthest-end.ensures
      (sym (goes tag_machine c.loop-place.state c.args.text.now c.loop-place.place c.loop-place.end c.in-Some.next c.loop-place-test.true (sym c.next_of_tag.ensures ∙ c.in-Some.is))
      ∙ c.loop-place.invariant.best);
  within = rw c.furthest-end.ensures (end_within tag_machine c.loop-place.state c.args.text.now c.loop-place.place c.loop-place.end c.in-Some.next c.loop-place.invariant.within);
}

pub returns-clause-value : goal.returns-clause-value
returns-clause-value c =
    sym (is_read tag_machine c.loop-place.state c.args.text.now c.loop-place.place c.loop-place.end c.loop-place-test.false)
    ∙ c.loop-place.invariant.best
