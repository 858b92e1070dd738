use Rattle.std.proofs.Common.{◌<◌, ◌≤◌, drop, length, rules, subst, take}
use Rattle.rsp_modes.specs.Logs.{TakesPiece}
use Rattle.rsp_modes.proofs.Consuming.{first_many, first_none, first_of_front}
use Rattle.rsp_modes.proofs.Logging.{ended_last_lacks, ended_refused, gave_last, gave_piece}
use Rattle.rsp_modes.proofs.log.LogFeedFeed.next.Goals as goal

pub returns-in-Ok-Some-clause-given : goal.returns-in-Ok-Some-clause-given
returns-in-Ok-Some-clause-given g c start before gave =
    let none = first_none c.read.new.buf c.in-Ok-eq0.field-0 c.in-Ok-eq0.field-0-test in
    let read = c.in-Ok-eq0.ensures.bytes in
    let rises = rw c.in-Ok-eq0.field-0-test at c.in-Ok-eq0.ensures.given in
    gave_last _ _ _ _ _ _ _ _ start _ _ before c.in-Ok-Some.block
    c.if-self.false
    c.last.ensures.at_end
    c.last.ensures.most
    c.last.ensures.document
    (rw none at read.0)
    (read.1 c.in-Ok-eq0.field-0-test)
    rises
    c.in-Ok-eq0.ensures.cause.1
    (rw c.in-Ok-Some.field-0-is at c.in-Ok-Some.ensures.given)
    gave

pub returns-in-Err-last-clause-ended : goal.returns-in-Err-last-clause-ended
returns-in-Err-last-clause-ended g c start before gave =
    let none = first_none c.read.new.buf c.in-Ok-eq0.field-0 c.in-Ok-eq0.field-0-test in
    let read = c.in-Ok-eq0.ensures.bytes in
    let rises = rw c.in-Ok-eq0.field-0-test at c.in-Ok-eq0.ensures.given in
    ended_last_lacks _ _ _ _ c.args.self.now.blocks c.last.new.self.blocks start _ _ before c.in-Err-last.cut
    c.in-Err-last.ensures.cut
    c.if-self.false
    c.last.ensures.most
    c.last.ensures.document
    (rw none at read.0)
    rises
    c.in-Ok-eq0.ensures.cause.1
    gave

pub returns-in-Ok-piece-clause-given : goal.returns-in-Ok-piece-clause-given
returns-in-Ok-piece-clause-given g c start before gave =
    let low : c.in-Ok.read ≤ length c.read.new.buf = search rules in
    gave_piece _ _ _ _ _ _ c.in-Ok.read _ _ start _ _ before (take c.in-Ok.read c.read.new.buf) c.in-Ok-piece.ended
    c.if-self.false
    c.piece.ensures.at_end
    c.piece.ensures.most
    (first_many c.read.new.buf c.in-Ok.read low)
    c.in-Ok.ensures.bytes.0
    c.in-Ok.ensures.given
    c.in-Ok.ensures.cause.1
    c.read.ensures.still_sure
    (subst (λ piece. TakesPiece c.args.self.now.most c.args.self.now.taken c.piece.new.self.taken c.args.self.now.blocks c.piece.new.self.blocks piece c.in-Ok-piece.ended)
    (first_of_front c.read.new.buf (drop c.asked-asked.result c.args.self.now.buffer) c.in-Ok.read low)
    c.in-Ok-piece.ensures.takes)
    gave

pub returns-in-Err-piece-clause-ended : goal.returns-in-Err-piece-clause-ended
returns-in-Err-piece-clause-ended g c start before gave =
    let low : c.in-Ok.read ≤ length c.read.new.buf = search rules in
    let some : 0 < c.in-Ok.read = search rules in
    ended_refused _ _ _ _ c.in-Ok.read c.args.self.now.blocks c.piece.new.self.blocks start _ _ before (take c.in-Ok.read c.read.new.buf) c.in-Err-piece.cut
    c.if-self.false
    c.piece.ensures.most
    c.piece.ensures.document
    (first_many c.read.new.buf c.in-Ok.read low)
    (λ too_long. some)
    c.in-Err-piece.ensures.cut
    c.in-Ok.ensures.bytes.0
    c.in-Ok.ensures.given
    c.in-Ok.ensures.cause.1
    gave
