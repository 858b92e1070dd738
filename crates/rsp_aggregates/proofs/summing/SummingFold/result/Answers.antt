use Rattle.std.proofs.Common.{ap, ◌∙◌, arith}
use Rattle.rsp_aggregates.proofs.Summed.{whole-result, no-result}
use Rattle.rsp_expr.specs.Functions.{numeral_result}
use Rattle.std.proofs.lemmas.Result.{IfOk-weaker}
use Rattle.rsp_aggregates.proofs.summing.SummingFold.result.Goals as goal

pub returns-then-self-gt0 : goal.returns-then-self-gt0
returns-then-self-gt0 c = λ values stands.
    no-result c.args.self.now.total c.args.self.now.numbers c.args.self.now.others values c.args.self.now.average stands c.if-self-gt0.true

pub returns : goal.returns
returns c = IfOk-weaker c.literal_of.result _ _ (λ found is values stands.
    is ∙ (ap numeral_result c.sum_or_mean.ensures
    ∙ whole-result c.args.self.now.total c.args.self.now.numbers c.args.self.now.others values c.args.self.now.average stands
    (omega arith))) c.literal_of.ensures
