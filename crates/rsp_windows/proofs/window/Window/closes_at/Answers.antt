use Rattle.rsp_spec.specs.Windows.{Shape}
use Rattle.rsp_windows.specs.declared.window.Window.TheInside.{Inside}
use Rattle.rsp_windows.proofs.Closings.{closes_from_first, none_closes_before}
use Rattle.rsp_windows.proofs.window.Window.closes_at.Goals as goal

abbrev shape_of : Inside → Shape
shape_of w = record { width = w.width; slide = w.slide; origin = w.origin }

pub returns-then-t-first_closing-clause-value : goal.returns-then-t-first_closing-clause-value
returns-then-t-first_closing-clause-value c =
    rw (← c.self.view_is) (none_closes_before (shape_of c.self.inside) _ c.self.invariant.slide_low c.if-t-first_closing.true)

pub returns-clause-value : goal.returns-clause-value
returns-clause-value c =
    rw (← c.self.view_is) (closes_from_first (shape_of c.self.inside) _ c.self.invariant.slide_low c.if-t-first_closing.false)
