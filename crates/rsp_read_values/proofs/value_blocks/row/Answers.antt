use Rattle.std.proofs.Common.{sym, subst}
use Rattle.rsp_written.specs.Gives.{Gives}
use Rattle.rsp_read_values.proofs.RowLaws.{row_is}
use Rattle.rsp_read_values.proofs.value_blocks.row.Goals as goal

pub returns : goal.returns
returns c = subst (λ read. Gives (λ x. (x.0.items, x.1.now)) c.closed_row.result read) (sym (row_is c.args.count c.args.tokens.now)) c.closed_row.ensures
