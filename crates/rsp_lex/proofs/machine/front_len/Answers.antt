use Rattle.std.proofs.Common.{sym}
use Rattle.rsp_lex.proofs.KindLaws.{front_is}
use Rattle.rsp_lex.proofs.machine.front_len.Goals as goal

pub returns-clause-value : goal.returns-clause-value
returns-clause-value c = rw (c.scanned.ensures.len, c.start.ensures) (sym (front_is c.args.kind c.args.text.now))
