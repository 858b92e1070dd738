use Rattle.std.proofs.Common.{◌≡◌, Some, length, rules}
use Rattle.std.specs.List.{slice_get}
use Rattle.rsp_spec.specs.Limits.{most_file_bytes}
use Rattle.rsp_words.specs.Playing.{replay_for}
use Rattle.rsp_modes.specs.Readings.{Ends}
use Rattle.rsp_modes.specs.Shelves.{LacksMemory}
use Rattle.rsp_words.specs.Words.{names_of}
use Rattle.rsp_modes.proofs.Filed.{read_all, read_lacks, read_on, read_stopped}
use Rattle.rsp_modes.proofs.reading.read_files.Goals as goal

pub files-preserved : goal.files-preserved
files-preserved g c =
    let named : Some c.in-Some.name.now ≡ slice_get (names_of (replay_for c.args.replay.now)) (length c.files.files) = search rules in
    read_on most_file_bytes _ _ _ _ _ _ _ _ c.files.invariant named c.in-Ok.ensures.file c.in-Ok-push.ensures.ok

pub returns-in-Err-push : goal.returns-in-Err-push
returns-in-Err-push g c =
    let named : Some c.in-Some.name.now ≡ slice_get (names_of (replay_for c.args.replay.now)) (length c.files.files) = search rules in
    record { files = read_stopped most_file_bytes (LacksMemory most_file_bytes) _ _ _ _ _ _ c.files.invariant named (read_lacks most_file_bytes _ _ _ _ c.in-Ok.ensures.file) }

pub returns-in-Err : goal.returns-in-Err
returns-in-Err g c =
    let named : Some c.in-Some.name.now ≡ slice_get (names_of (replay_for c.args.replay.now)) (length c.files.files) = search rules in
    record { files = read_stopped most_file_bytes (Ends c.in-Err.unread) _ _ _ _ _ _ c.files.invariant named c.in-Err.ensures.file }

pub returns-in-None : goal.returns-in-None
returns-in-None g c = record { files = read_all most_file_bytes _ _ _ _ c.files.invariant (search rules) }
