use Rattle.rsp_spec.proofs.NeededLaws.{needed_up_to}
use Rattle.rsp_windows.proofs.window.Window.last_needed.Goals as goal

pub returns-clause-value : goal.returns-clause-value
returns-clause-value c =
    needed_up_to _ _ _ c.last_closing.ensures.shape.slide_low c.last_closing.ensures.needed
