use Rattle.std.proofs.Common.{◌∙◌, ap, arith, inl, inr, refl, Err, []}
use Rattle.rsp_engine.specs.World.{empty_world}
use Rattle.rsp_modes.specs.declared.stop.Stop.TheVariants.{Memory}
use Rattle.rsp_modes.specs.Output.{run}
use Rattle.rsp_words.specs.Playing.{replay_for}
use Rattle.rsp_modes.specs.Replays.{replayed}
use Rattle.rsp_words.specs.Words.{names_of}
use Rattle.rsp_modes.proofs.Answering.{files_told, files_unread}
use Rattle.rsp_modes.proofs.Streamed.{replayed_is}
use Rattle.rsp_modes.proofs.Writings.{wrote_nothing}
use Rattle.rsp_modes.proofs.run.replay_on.Goals as goal

pub returns-in-Ok-run_feed-clause-files : goal.returns-in-Ok-run_feed-clause-files
returns-in-Ok-run_feed-clause-files g c =
    let replay = replay_for c.args.replay.now in
    let left = rw c.as_slice.ensures at c.in-Ok-run_feed.ensures.left in
    files_told c.args.replay.now.form (names_of replay) (replayed replay) _ _ _ _ c.in-Ok.files c.tell_feed.result _ c.status_of.result
    c.status_of.ensures
    (ap (λ given. (run (empty_world 0) given).said) left ∙ replayed_is replay c.in-Ok.files)
    c.in-Ok.ensures.files
    c.tell_feed.ensures.says

pub returns-in-Ok-clause-files : goal.returns-in-Ok-clause-files
returns-in-Ok-clause-files g c =
    let replay = replay_for c.args.replay.now in
    files_told c.args.replay.now.form (names_of replay) (replayed replay) _ _ _ _ c.in-Ok.files (Err Memory) _ _
    refl
    refl
    c.in-Ok.ensures.files
    (record { front = []; rest = replayed replay c.in-Ok.files; whole = refl; written = wrote_nothing _ })

pub returns-clause-files : goal.returns-clause-files
returns-clause-files g c =
    let replay = replay_for c.args.replay.now in
    files_unread c.args.replay.now.form (names_of replay) (replayed replay) _ _ _ c.in-Err.unread c.status_of_unread.result
    c.status_of_unread.ensures
    c.in-Err.ensures.files

pub returns-in-Ok-run_feed-clause-cost : goal.returns-in-Ok-run_feed-clause-cost
returns-in-Ok-run_feed-clause-cost g c =
    let left = rw c.as_slice.ensures at c.in-Ok-run_feed.ensures.left in
    inl (c.in-Ok.files, c.in-Ok.ensures.files, rw left at c.tell_feed.ensures.cost)

pub returns-in-Ok-clause-cost : goal.returns-in-Ok-clause-cost
returns-in-Ok-clause-cost g c = inr (omega arith)

pub returns-clause-cost : goal.returns-clause-cost
returns-clause-cost g c = inr (omega arith)
