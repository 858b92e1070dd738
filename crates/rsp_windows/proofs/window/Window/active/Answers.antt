use Rattle.std.proofs.Common.{rules, arith, Some, None, sym}
use Rattle.std.proofs.lemmas.Grind.{common_steps}
use Rattle.rsp_spec.specs.Relations.{IsActive}
use Rattle.rsp_spec.proofs.WindowLaws.{active_is}
use Rattle.rsp_windows.proofs.window.Window.active.Goals as goal

pub returns-then-opening-t-clause-value : goal.returns-then-opening-t-clause-value
returns-then-opening-t-clause-value c =
    let is : IsActive c.args.self.now c.args.t (Some c.first_to_reach-k.result) = search rules in
    sym (active_is _ _ _ c.first_to_reach-k.ensures.shape.slide_low is)

pub returns-else-opening-t-clause-value : goal.returns-else-opening-t-clause-value
returns-else-opening-t-clause-value c =
    let is : IsActive c.args.self.now c.args.t None = grind (arith, common_steps) in
    sym (active_is _ _ _ c.first_to_reach-k.ensures.shape.slide_low is)
