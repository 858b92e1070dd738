use Rattle.rsp_aggregates.proofs.Holding.{error-in}
use Rattle.rsp_aggregates.proofs.copies.Copies.has_error.Goals as goal

pub returns : goal.returns
returns c = λ values holds. error-in c.args.self.now.errors c.args.self.now.terms values holds
