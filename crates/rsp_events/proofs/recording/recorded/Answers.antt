use Rattle.std.proofs.Common.{ap, subst, sym}
use Rattle.std.proofs.lemmas.Result.{IfOk-weaker}
use Rattle.rsp_events.specs.declared.recording.RecordedItems.{RecordedItems}
use Rattle.rsp_events.specs.FileLines.{file_lines}
use Rattle.rsp_events.proofs.FileLaws.{recorded_is}
use Rattle.rsp_events.proofs.RecordedTimes.{AreInstants, items_timed}
use Rattle.rsp_events.proofs.recording.recorded.Goals as goal

pub returns-clause-value : goal.returns-clause-value
returns-clause-value c = rw (recorded_is c.args.stream.now c.args.document c.args.bytes.now) c.lines_recorded.ensures

pub returns-clause-timed : goal.returns-clause-timed
returns-clause-timed c =
    IfOk-weaker c.lines_recorded.result _ _
    (λ read is. subst AreInstants (sym (ap (λ (r : RecordedItems). r.items) is))
    (items_timed c.args.stream.now c.args.document (file_lines c.args.bytes.now))) c.lines_recorded.ensures
