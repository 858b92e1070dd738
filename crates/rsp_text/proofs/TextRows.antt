-- Worked texts, by the definitions alone.
use Rattle.std.proofs.Common.{◌≡◌, refl}
use Rattle.std.specs.Prelude.{Some, None, codes}
use Rattle.jiff_core.specs.Calendar.{days_from_civil, day_count, days_of_years, days_of_months}
use Rattle.rsp_text.specs.Digits.{read_u64, has_form, fraction}
use Rattle.rsp_text.specs.Instants.{instant, is_date_time, minutes_ahead}
use Rattle.rsp_text.specs.Spans.{span, clock, seconds}

pub largest : read_u64 (codes "18446744073709551615") ≡ Some 18446744073709551615
unfolding read_u64
largest = refl

pub too_large : read_u64 (codes "18446744073709551616") ≡ None
unfolding read_u64
too_large = refl

pub winter : instant (codes "2024-01-01T01:00:00.5+01:00") ≡ Some 1704067200500
unfolding instant is_date_time minutes_ahead has_form fraction days_from_civil day_count days_of_years days_of_months
winter = refl

pub day_and_hours : span (codes "P1DT2H") ≡ Some 93600000
unfolding span clock seconds fraction
day_and_hours = refl

pub nothing : span (codes "P") ≡ None
unfolding span clock seconds fraction
nothing = refl
