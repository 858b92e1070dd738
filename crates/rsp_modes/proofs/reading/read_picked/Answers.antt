use Rattle.std.proofs.Common.{◌+◌, ◌<◌, ◌≤◌, ◌^◌, length, rules, take}
use Rattle.rsp_spec.specs.Limits.{most_file_bytes}
use Rattle.rsp_modes.proofs.Files.{takes_too_many}
use Rattle.rsp_modes.proofs.Consuming.{first_many}
use Rattle.rsp_modes.proofs.reading.read_picked.Goals as goal

pub returns-then-len-read-gt-MOST_FILE_BYTES : goal.returns-then-len-read-gt-MOST_FILE_BYTES
returns-then-len-read-gt-MOST_FILE_BYTES g c =
    let low : c.in-Ok.read ≤ length c.read.new.buf = search rules in
    let few : c.in-Ok.read ≤ 2 ^ 14 = search rules in
    let past : most_file_bytes < length c.reads.bytes.items + c.in-Ok.read = search rules in
    record {
      file = takes_too_many _ _ _ _ (take c.in-Ok.read c.read.new.buf) c.in-Ok.read
          c.reads.invariant
          (first_many c.read.new.buf c.in-Ok.read low)
          few
          c.in-Ok.ensures.bytes.0
          c.in-Ok.ensures.given
          past
          c.in-Ok.ensures.cause.1;
    }
