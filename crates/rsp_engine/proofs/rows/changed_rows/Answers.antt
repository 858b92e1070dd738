use Rattle.std.proofs.Common.{map}
use Rattle.rsp_engine.specs.Reports.{cells_at}
use Rattle.rsp_engine.proofs.OrderedRows.{changed_same, cut_changed, stands_for}
use Rattle.rsp_engine.proofs.rows.changed_rows.Goals as goal

pub returns : goal.returns
returns c before after preceding present net first second =
    c.in_ok-rows.ensures.rows preceding present
    (stands_for c.args.operator c.in_ok-change.change _ preceding present c.requires
    (changed_same (map (cells_at c.args.shown.now) before) preceding (map (cells_at c.args.shown.now) after) present c.in_ok-change.change
    (cut_changed c.args.shown.now before after c.args.net c.in_ok-change.change c.in_ok-change.ensures net) first second))
