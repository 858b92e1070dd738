use Rattle.std.proofs.Common.{arith, ◌-◌, ◌*◌, ◌≤◌}
use Rattle.std.proofs.lemmas.Grind.{div_ceil_times}
use Rattle.rsp_windows.proofs.Rows.{none_shared, row_from, row_sizes}
use Rattle.rsp_windows.proofs.congruence.shared_row.Goals as goal

pub returns-then-base-common-ne0-clause-none : goal.returns-then-base-common-ne0-clause-none
returns-then-base-common-ne0-clause-none c = λ none. none_shared _ _ _ _ _ _ c.divide_out-common.ensures c.if-base-common-ne0.true

pub returns-clause-row : goal.returns-clause-row
returns-clause-row c =
    let reaches : c.args.base ≤ c.div_ceil.result * c.args.period
    = rw c.div_ceil.ensures (div_ceil_times c.args.base c.args.period c.requires.period_low).0 in
    row_from c.args.base c.args.slide c.args.period _ _ _ c.div_ceil.result (c.div_ceil.result * c.args.period - c.args.base)
    c.requires.slide_low c.requires.period_low c.divide_out-common.ensures c.if-base-common-ne0.false (omega (arith, reaches))

pub returns-clause-sizes : goal.returns-clause-sizes
returns-clause-sizes c =
    row_sizes c.args.base c.args.slide c.args.period _ _ c.requires.period_low c.divide_out-common.ensures.right c.requires.base_high
    c.requires.slide_high c.requires.period_high
