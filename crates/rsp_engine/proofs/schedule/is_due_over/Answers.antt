use Rattle.std.proofs.lemmas.List.Elements.{All-same}
use Rattle.rsp_report.specs.Due.{IsWatched}
use Rattle.rsp_engine.proofs.schedule.is_due_over.Goals as goal

pub due_on_item-requires-clause-watched : goal.due_on_item-requires-clause-watched
due_on_item-requires-clause-watched g c =
    All-same IsWatched _ _ c.as_slice.ensures.value c.requires.prompt.watching.watched
