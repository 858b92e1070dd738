use Rattle.rsp_number.proofs.Laws.{read-exactly}
use Rattle.rsp_number.proofs.reading.decimal.Goals as goal

pub returns-clause-exact : goal.returns-clause-exact
returns-clause-exact c = read-exactly c.args.text.now _ c.parts_read.ensures
