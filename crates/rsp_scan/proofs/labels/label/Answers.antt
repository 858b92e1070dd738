use Rattle.std.proofs.lemmas.Result.{IfOk-weaker}
use Rattle.rsp_scan.specs.Names.{IsLabel}
use Rattle.rsp_scan.specs.Readers.{label}
use Rattle.rsp_scan.proofs.NameLaws.{label_reads}
use Rattle.rsp_scan.proofs.RuleLaws.{read_by_rule}
use Rattle.rsp_scan.proofs.labels.label.Goals as goal

pub returns-clause-grammar : goal.returns-clause-grammar
returns-clause-grammar c =
    IfOk-weaker c.marked_label.result _ _ (λ read is. read_by_rule label IsLabel label_reads read (λ x. x.0) (λ x. x.1.now) c.args.text.now is) c.marked_label.ensures
