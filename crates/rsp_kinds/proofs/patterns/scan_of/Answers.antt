use Rattle.rsp_kinds.proofs.Reading.{rows-made}
use Rattle.rsp_kinds.proofs.patterns.scan_of.Goals as goal

pub returns-clause-rows : goal.returns-clause-rows
returns-clause-rows c =
    rows-made c.args.place.now (record { subject = c.args.subject.now; predicate = c.args.predicate.now; object = c.args.object.now }) _ _ _ _ _ _ _ c.new.ensures.width c.new.ensures.pattern
    c.in_ok-graph.ensures c.in_ok-subject.ensures.subject c.in_ok-subject.ensures.predicate c.in_ok-subject.ensures.object
