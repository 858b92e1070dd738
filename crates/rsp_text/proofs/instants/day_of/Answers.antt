use Rattle.std.proofs.Common.{rules, refl, arith, FitsSigned, w32}
use Rattle.std.proofs.lemmas.Int.{ints, to_z-of_z}
use Rattle.rsp_text.proofs.InstantLaws.{day_is}
use Rattle.rsp_text.proofs.instants.day_of.Goals as goal

pub returns-in-Ok-clause-value : goal.returns-in-Ok-clause-value
returns-in-Ok-clause-value c =
    let fits : FitsSigned w32 c.to_unix_epoch_day.result = search rules in
    rw
    (to_z-of_z w32 c.to_unix_epoch_day.result fits, c.to_unix_epoch_day.ensures.value, c.to_plain.ensures)
    (day_is c.args.year c.args.month c.args.day _ _ _ c.in-Ok.date
    (omega (arith, ints, c.requires.year))
    (omega (arith, ints, c.requires.month))
    (omega (arith, ints, c.requires.day))
    (c.in-Ok.ensures.succeeds.0 refl)
    c.in-Ok.ensures.value)
