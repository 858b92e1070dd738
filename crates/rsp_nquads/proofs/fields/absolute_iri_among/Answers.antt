use Rattle.rsp_nquads.proofs.FieldLaws.{field_by_grammar}
use Rattle.rsp_nquads.proofs.fields.absolute_iri_among.Goals as goal

pub returns-clause-grammar : goal.returns-clause-grammar
returns-clause-grammar c = λ name. field_by_grammar c.follow_rules.ensures c.args.field.now name
