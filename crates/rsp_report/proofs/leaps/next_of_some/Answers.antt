use Rattle.std.proofs.Common.{sym}
use Rattle.std.proofs.lemmas.List.Elements.{All-contains}
use Rattle.rsp_report.specs.Due.{IsWatched}
use Rattle.rsp_report.specs.Leaps.{asks}
use Rattle.rsp_report.proofs.Agreement.{prefix_more}
use Rattle.rsp_report.proofs.leaps.next_of_some.Goals as goal

pub next_of_one-next-requires-clause-watched : goal.next_of_one-next-requires-clause-watched
next_of_one-next-requires-clause-watched c =
    All-contains IsWatched _ _ c.requires.watched (c.loop-one.one-index, c.loop-one-test.true, sym c.one-item.is)

pub loop-one-preserved : goal.loop-one-preserved
loop-one-preserved c =
    rw c.sooner-best.ensures (prefix_more (asks c.args.question.now) _ _ c.one-item.result _ _ _ _ c.loop-one-test.true (sym c.one-item.is)
    c.loop-one.invariant c.next_of_one-next.ensures)
