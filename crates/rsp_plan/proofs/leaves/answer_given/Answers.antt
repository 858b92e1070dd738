use Rattle.std.proofs.Common.{List, [], cond, sym, ap, subst}
use Rattle.rsp_multiset.specs.Rows.{Cells}
use Rattle.rsp_terms.specs.declared.term.Term.{Term}
use Rattle.rsp_operators.specs.Laws.{Leads}
use Rattle.rsp_plan.proofs.Carrying.{ok_led}
use Rattle.rsp_plan.proofs.RowsKept.{none-fits, none-leads}
use Rattle.rsp_plan.proofs.leaves.answer_given.Goals as goal

pub returns-then-starts-clause-leads : goal.returns-then-starts-clause-leads
returns-then-starts-clause-leads g c =
    ok_led c.rows_kept.result c.rows_kept.ensures.leads
    (λ net leads. subst (λ b. Leads (g.D.Domain.shown c.rows_kept.new.domain) (cond b [] c.args.given.now.rows) net c.args.given.now.rows) (sym c.if-starts.true)
    (subst (λ (rows : List (Cells Term)). Leads (g.D.Domain.shown c.rows_kept.new.domain) [] net rows) c.as_slice.ensures leads))

pub returns-else-starts-clause-rows : goal.returns-else-starts-clause-rows
returns-else-starts-clause-rows g c = none-fits _ _ _ _ c.new.ensures

pub returns-else-starts-clause-leads : goal.returns-else-starts-clause-leads
returns-else-starts-clause-leads g c =
    none-leads _ _ _ _ c.new.ensures (ap (λ b. cond b [] c.args.given.now.rows) c.if-starts.false)
