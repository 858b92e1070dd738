use Rattle.std.proofs.Common.{◌≡◌, drop}
use Rattle.rsp_io.specs.Files.{file_named, named_files}
use Rattle.rsp_io.proofs.files.position_of.Given as goal

-- the first file of this name isn't before the index
abbrev pub invariant-loop-index : goal.invariant-loop-index
invariant-loop-index l = file_named l.name (named_files (drop l.index l.files)) ≡ file_named l.name (named_files l.files)
