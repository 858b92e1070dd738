use Rattle.rsp_nquads.proofs.ReadBack.{says_again}
use Rattle.rsp_nquads.proofs.writing.write.Goals as goal

pub returns-then-is_err-clause-read_back : goal.returns-then-is_err-clause-read_back
returns-then-is_err-clause-read_back c = λ of line is no_blank document. says_again c.follow_rules.ensures of line c.args.quad.now is no_blank document

pub returns-else-is_err-clause-read_back : goal.returns-else-is_err-clause-read_back
returns-else-is_err-clause-read_back c = λ of line is no_blank document. says_again c.follow_rules.ensures of line c.args.quad.now is no_blank document
