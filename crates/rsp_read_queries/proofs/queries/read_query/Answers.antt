use Rattle.rsp_written.specs.Grammar.{query}
use Rattle.rsp_written.specs.GroupMeanings.{written_of}
use Rattle.rsp_written.specs.GroupReadings.{query_read}
use Rattle.rsp_written.proofs.Groups.{good_query}
use Rattle.rsp_read_queries.proofs.Saying.{says}
use Rattle.rsp_read_queries.proofs.queries.read_query.Goals as goal

pub returns-clause-grammar : goal.returns-clause-grammar
returns-clause-grammar c =
    says (λ x. (written_of x.0, x.1.now)) query c.args.tokens.now c.exact_query.result (query_read c.args.tokens.now) c.exact_query.ensures
    (good_query.reads c.args.tokens.now)

pub returns-clause-fronts : goal.returns-clause-fronts
returns-clause-fronts c = good_query.closed
