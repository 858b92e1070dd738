use Rattle.rsp_events.proofs.Endings.{next_fed, next_other}
use Rattle.rsp_events.proofs.begun.next_ending.Goals as goal

pub returns-then-byte-eq13 : goal.returns-then-byte-eq13
returns-then-byte-eq13 c bytes long is = next_fed bytes _ long _ is _ _ c.is_blank.ensures c.both-last.ensures c.if-byte-eq13.true

pub returns-else-byte-eq13 : goal.returns-else-byte-eq13
returns-else-byte-eq13 c bytes long is = next_other bytes _ long _ is _ _ c.is_blank.ensures c.both-last.ensures c.if-byte-eq13.false
