use Rattle.std.proofs.Common.{sym, ◌∙◌}
use Rattle.rsp_multiset.proofs.GivenRows.{cells-left}
use Rattle.rsp_multiset.proofs.variables.moved_cell.Goals as goal

pub returns-else-contains-clause-later : goal.returns-else-contains-clause-later
returns-else-contains-clause-later g c =
    cells-left
    c.args.later.now
    c.args.variable
    c.args.row.now.items
    c.taken_cell.new.row.items
    (sym c.contains.ensures.value ∙ c.if-contains.false)
    c.taken_cell.ensures.others
