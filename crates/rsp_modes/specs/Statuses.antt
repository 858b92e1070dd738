-- Definitions: the exit status of each answer.
use Rattle.std.specs.Prelude.{ℕ}
use Rattle.rsp_modes.specs.declared.status.Status.{Status}
use Rattle.rsp_modes.specs.declared.status.Status.TheVariants.{Done, DoneWithRefusals, Usage, ReadFault, WriteFault}
use Rattle.rsp_modes.specs.declared.status.Status.TheVariants.{OutOfMemory, TooLong}

abbrev pub code_of : Status → ℕ
code_of Done = 0
code_of DoneWithRefusals = 1
code_of Usage = 2
code_of ReadFault = 3
code_of WriteFault = 4
code_of OutOfMemory = 5
code_of TooLong = 6
