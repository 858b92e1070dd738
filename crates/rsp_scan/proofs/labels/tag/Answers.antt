use Rattle.std.proofs.lemmas.Result.{IfOk-weaker}
use Rattle.rsp_scan.specs.Names.{IsTag}
use Rattle.rsp_scan.specs.Readers.{tag}
use Rattle.rsp_scan.proofs.NameLaws.{tag_reads}
use Rattle.rsp_scan.proofs.RuleLaws.{read_by_rule}
use Rattle.rsp_scan.proofs.labels.tag.Goals as goal

pub returns-clause-grammar : goal.returns-clause-grammar
returns-clause-grammar c =
    IfOk-weaker c.marked_tag.result _ _ (λ read is. read_by_rule tag IsTag tag_reads read (λ x. x.0) (λ x. x.1.now) c.args.text.now is) c.marked_tag.ensures
