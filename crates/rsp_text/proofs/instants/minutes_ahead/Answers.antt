use Rattle.std.proofs.Common.{rules, ◌≡◌, ◌∙◌, true, false, None, FitsSigned, w32, codes}
use Rattle.std.specs.Prelude.{nat_eq}
use Rattle.std.specs.Cmp.Lexicographic.{pointwise}
use Rattle.std.proofs.lemmas.Int.{to_z-of_z}
use Rattle.rsp_text.proofs.InstantLaws.{ahead_is, no_ahead, utc_is}
use Rattle.rsp_text.proofs.instants.minutes_ahead.Goals as goal

pub returns-clause-value : goal.returns-clause-value
returns-clause-value c =
    let fits : FitsSigned w32 c.signed.result = search rules in
    let other : pointwise nat_eq c.args.zone.now (codes "Z") ≡ false = search rules in
    rw
    (to_z-of_z w32 c.signed.result fits, c.signed.ensures.value)
    (ahead_is c.args.zone.now c.in_ok-minutes.minutes other c.in_ok-minutes.ensures.value)

pub returns-then-eq-clause-value : goal.returns-then-eq-clause-value
returns-then-eq-clause-value c =
    let is : pointwise nat_eq c.args.zone.now (codes "Z") ≡ true = search rules in
    utc_is c.args.zone.now is

pub returns-in_err-minutes-clause-value : goal.returns-in_err-minutes-clause-value
returns-in_err-minutes-clause-value c =
    let other : pointwise nat_eq c.args.zone.now (codes "Z") ≡ false = search rules in
    let none : c.from_residual.result ≡ None = search rules in
    none ∙ no_ahead c.args.zone.now other c.in_err-minutes.ensures.value
