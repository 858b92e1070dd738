use Rattle.std.proofs.Common.{ap, sym, ◌∙◌}
use Rattle.rsp_aggregates.specs.Held.{is_in}
use Rattle.rsp_aggregates.proofs.Holding.{term-in}
use Rattle.rsp_aggregates.proofs.copies.Copies.has.Goals as goal

pub returns-in-None : goal.returns-in-None
returns-in-None c = λ values holds. c.has_error.ensures values holds ∙ ap (λ v. is_in v values) (sym c.in-None.is)

pub returns-in-Some : goal.returns-in-Some
returns-in-Some c = λ values holds.
    term-in c.args.self.now.errors c.args.self.now.terms values c.in-Some.term c.count.result c.is_zero.result c.count.ensures c.is_zero.ensures holds
    ∙ ap (λ v. is_in v values) (sym c.in-Some.is)
