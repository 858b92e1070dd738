-- The shared instants of a window's closings and a period.
use Rattle.std.specs.Prelude.{ℕ, ◌+◌, ◌≤◌, Option}
use Rattle.std.proofs.Common.{arith}
use Rattle.rsp_spec.specs.Windows.{Shape}
use Rattle.rsp_spec.specs.Instants.{IsLeastIn}
use Rattle.rsp_spec.specs.Relations.{ClosesAtMultiple}
use Rattle.rsp_spec.proofs.WindowLaws.{closes_at_is}
use Rattle.rsp_spec.proofs.InstantLaws.{least_alike}
use Rattle.rsp_windows.specs.Congruences.{IsShared}

shared_closes : (w : Shape) (period t : ℕ) → 1 ≤ w.slide → IsShared (w.origin + w.width) w.slide period t → ClosesAtMultiple w period t
shared_closes w period t slide shared = ((closes_at_is w t slide).1 (shared.number, omega (arith, shared.closes)), shared.divides)

closes_shared : (w : Shape) (period t : ℕ) → 1 ≤ w.slide → ClosesAtMultiple w period t → IsShared (w.origin + w.width) w.slide period t
closes_shared w period t slide (closes, divides) =
    let found = (closes_at_is w t slide).0 closes in record { number = found.0; closes = omega (arith, found.1); divides = divides }

pub least_closing : (w : Shape) (period from to : ℕ) (r : Option ℕ) → 1 ≤ w.slide
    → IsLeastIn (IsShared (w.origin + w.width) w.slide period) from to r → IsLeastIn (ClosesAtMultiple w period) from to r
least_closing w period from to r slide is =
    least_alike _ _ (λ t. shared_closes w period t slide) (λ t. closes_shared w period t slide) from to r is
