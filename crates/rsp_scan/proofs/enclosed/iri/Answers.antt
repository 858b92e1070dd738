use Rattle.std.proofs.lemmas.Result.{IfOk-weaker}
use Rattle.rsp_scan.specs.Enclosed.{IsIri}
use Rattle.rsp_scan.specs.Readers.{iri}
use Rattle.rsp_scan.proofs.RuleLaws.{read_by_rule, iri_reads}
use Rattle.rsp_scan.proofs.enclosed.iri.Goals as goal

pub returns-clause-grammar : goal.returns-clause-grammar
returns-clause-grammar c =
    IfOk-weaker c.enclosed_iri.result _ _ (λ read is. read_by_rule iri IsIri iri_reads read (λ x. x.0) (λ x. x.1.now) c.args.text.now is) c.enclosed_iri.ensures
