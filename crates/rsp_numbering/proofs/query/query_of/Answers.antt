use Rattle.rsp_written.specs.GroupMeanings as written
use Rattle.rsp_numbering.proofs.Made.{answer_is}
use Rattle.rsp_numbering.proofs.query.query_of.Goals as goal

pub returns : goal.returns
returns c = answer_is (written.written_of c.args.text.now) c.query_or_limit.result c.query_or_limit.ensures
