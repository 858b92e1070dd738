use Rattle.rsp_modes.proofs.Files.{picked_reads}
use Rattle.rsp_modes.proofs.reading.read_named.Goals as goal

pub returns-in-Ok : goal.returns-in-Ok
returns-in-Ok g c =
    record {
      file = picked_reads _ _ _ _ c.read_picked.result
          c.in-Ok.ensures.bytes
          c.in-Ok.ensures.cause.1
          c.pick.ensures.still_sure
          c.pick.ensures.files
          c.read_picked.ensures.file;
    }
