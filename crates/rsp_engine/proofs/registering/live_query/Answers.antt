use Rattle.std.proofs.Common.{◌∙◌}
use Rattle.rsp_engine.proofs.Begun.{begun_watched, none_set}
use Rattle.rsp_engine.proofs.registering.live_query.Goals as goal

pub due_from-due-requires-clause-watched : goal.due_from-due-requires-clause-watched
due_from-due-requires-clause-watched g c = begun_watched _ _ (c.as_slice-2.ensures.value ∙ c.in_ok-watched.ensures)

pub returns-clause-answers : goal.returns-clause-answers
returns-clause-answers g c =
    record {
      node_is = c.requires.node;
      width_is = c.requires.width;
      ready = c.requires.ready;
      set = none_set _ c.requires.facts;
    }
