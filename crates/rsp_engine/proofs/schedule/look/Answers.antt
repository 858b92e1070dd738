use Rattle.std.proofs.lemmas.List.Elements.{All-same}
use Rattle.rsp_report.specs.Due.{IsWatched}
use Rattle.rsp_engine.proofs.schedule.look.Goals as goal

pub due_from-live-requires-clause-watched : goal.due_from-live-requires-clause-watched
due_from-live-requires-clause-watched g c = All-same IsWatched _ _ c.as_slice.ensures.value c.requires.watched
