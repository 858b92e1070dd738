use Rattle.rsp_nquads.proofs.TiedLaws.{by_grammar, tied}
use Rattle.rsp_nquads.proofs.statements.statement_among.Goals as goal

pub returns-clause-grammar : goal.returns-clause-grammar
returns-clause-grammar c = by_grammar c.follow_rules.ensures c.args.document c.args.line.now c.said.result c.said.ensures

pub returns-clause-every_line : goal.returns-clause-every_line
returns-clause-every_line c = λ number text. tied c.follow_rules.ensures number text
