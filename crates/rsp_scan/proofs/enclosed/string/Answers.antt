use Rattle.std.proofs.lemmas.Result.{IfOk-weaker}
use Rattle.rsp_scan.specs.Enclosed.{IsString}
use Rattle.rsp_scan.specs.Readers.{string}
use Rattle.rsp_scan.proofs.RuleLaws.{read_by_rule, string_reads}
use Rattle.rsp_scan.proofs.enclosed.string.Goals as goal

pub returns-clause-grammar : goal.returns-clause-grammar
returns-clause-grammar c =
    IfOk-weaker c.enclosed_string.result _ _ (λ read is. read_by_rule string IsString string_reads read (λ x. x.0) (λ x. x.1.now) c.args.text.now is) c.enclosed_string.ensures
