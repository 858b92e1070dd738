use Rattle.std.proofs.Common.{sym}
use Rattle.rsp_modes.proofs.FileFaults.{fault_of_file, fault_of_text}
use Rattle.rsp_modes.proofs.faults.file_fault.Goals as goal

pub returns-in-Ok : goal.returns-in-Ok
returns-in-Ok c = rw (fault_of_text c.args.bytes.now c.in-Ok.ensures.1) (rw c.in-Ok.ensures.0 at c.text_fault.ensures.value)

pub returns-in-Err : goal.returns-in-Err
returns-in-Err c = sym (fault_of_file c.args.bytes.now _ c.in-Err.ensures)
