use Rattle.rsp_multiset.specs.Rows.{row_eq}
use Rattle.rsp_groups.proofs.Walking.{differ}
use Rattle.rsp_groups.proofs.rows.difference.Goals as goal

pub returns : goal.returns
returns g c = λ q.
    differ (row_eq g.V.PartialEq.eq) c.new-net.result c.count_rows.new.net c.negate.new.self c.count_rows-2.new.net _ _ q
    c.new-net.ensures (c.in_ok-count_rows.ensures q) c.negate.ensures (c.in_ok-count_rows-2.ensures q)
