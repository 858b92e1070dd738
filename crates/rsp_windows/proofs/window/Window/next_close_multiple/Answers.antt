use Rattle.rsp_windows.proofs.SharedClosings.{least_closing}
use Rattle.rsp_windows.proofs.window.Window.next_close_multiple.Goals as goal

pub returns : goal.returns
returns c = rw (← c.self.view_is) (least_closing _ _ _ _ _ c.self.invariant.slide_low c.next_shared.ensures)
