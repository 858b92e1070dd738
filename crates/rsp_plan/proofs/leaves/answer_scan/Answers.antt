use Rattle.std.proofs.Common.{ap}
use Rattle.std.specs.Option.{option_copied}
use Rattle.rsp_plan.proofs.Carrying.{ok_led}
use Rattle.rsp_plan.proofs.Childless.{scan-on, scan-first}
use Rattle.rsp_plan.proofs.RowsKept.{none-fits}
use Rattle.rsp_plan.proofs.leaves.answer_scan.Goals as goal

pub returns-in-Some-clause-leads : goal.returns-in-Some-clause-leads
returns-in-Some-clause-leads g c =
    ok_led c.apply.result c.apply.ensures.law
    (λ net led. scan-on (g.D.Domain.shown c.apply.new.domain) c.args.scan.now (option_copied c.args.facts) net c.in-Some.changes.now (ap option_copied c.in-Some.is) led)

pub returns-in-None-clause-rows : goal.returns-in-None-clause-rows
returns-in-None-clause-rows g c = none-fits _ _ _ _ c.new.ensures

pub returns-in-None-clause-leads : goal.returns-in-None-clause-leads
returns-in-None-clause-leads g c =
    scan-first (g.D.Domain.shown c.args.domain.now) c.args.scan.now (option_copied c.args.facts) _ (ap option_copied c.in-None.is) c.new.ensures
