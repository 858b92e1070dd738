use Rattle.std.proofs.Common.{◌-◌, length}
use Rattle.rsp_spec.specs.Limits.{most_file_bytes}
use Rattle.rsp_words.specs.Playing.{replay_for}
use Rattle.rsp_modes.specs.Shelves.{shelf_seen}
use Rattle.rsp_words.specs.Words.{names_of}
use Rattle.rsp_modes.proofs.Filed.{ReadSome}
use Rattle.rsp_modes.proofs.reading.read_files.Given as goal

abbrev pub invariant-files : goal.invariant-files
invariant-files g l =
    ReadSome most_file_bytes
    (shelf_seen (g.H.Source.files l.initial.shelf) (g.H.Source.seen l.initial.shelf))
    (shelf_seen (g.H.Source.files l.shelf) (g.H.Source.seen l.shelf))
    (names_of (replay_for l.replay))
    l.files

abbrev pub decreases-files : goal.decreases-files
decreases-files g l = length (names_of (replay_for l.replay)) - length l.files
