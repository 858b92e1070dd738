-- Worked instants of small windows.
use Rattle.std.specs.Prelude.{◌≡◌, refl, true, false, None, Some}
use Rattle.rsp_spec.specs.Windows.{Shape, active_window, closes_at}

-- (0, 10], (5, 15], (10, 20], ..
abbrev pub overlapping : Shape
overlapping = record { width = 10; slide = 5; origin = 0 }

-- (0, 2], (5, 7], (10, 12], ..
abbrev pub apart : Shape
apart = record { width = 2; slide = 5; origin = 0 }

-- the first opening itself is in no window
pub opening_is_outside : active_window overlapping 0 ≡ None
opening_is_outside = refl

-- of two windows that contain an instant, the earlier; a closing is still inside
pub closing_is_inside : active_window overlapping 10 ≡ Some 0
closing_is_inside = refl

pub after_closing : active_window overlapping 11 ≡ Some 1
after_closing = refl

-- window 0 opens at 0 and closes first at 10
pub no_closing_at_opening : closes_at overlapping 5 ≡ false
no_closing_at_opening = refl

pub second_closing : closes_at overlapping 15 ≡ true
second_closing = refl

pub between_windows : active_window apart 3 ≡ None
between_windows = refl
