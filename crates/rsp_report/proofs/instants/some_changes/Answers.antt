use Rattle.std.proofs.Common.{sym}
use Rattle.std.proofs.lemmas.List.Elements.{All-contains}
use Rattle.rsp_report.specs.Due.{IsWatched}
use Rattle.rsp_report.proofs.instants.some_changes.Goals as goal

pub changes-requires-clause-watched : goal.changes-requires-clause-watched
changes-requires-clause-watched c =
    All-contains IsWatched _ _ c.requires.watched (c.loop-one.one-index, c.loop-one-test.true, sym c.one-item.is)
