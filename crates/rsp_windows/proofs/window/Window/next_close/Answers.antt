use Rattle.rsp_spec.proofs.NeededLaws.{next_is_least}
use Rattle.rsp_windows.proofs.window.Window.next_close.Goals as goal

pub returns-clause-least : goal.returns-clause-least
returns-clause-least c = next_is_least _ _ _ c.first_closing.ensures.shape.slide_low c.first_closing.ensures.next
