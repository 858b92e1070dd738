-- A call that gives what the reader gives says what the reader's law says.
use Rattle.std.proofs.Common.{List, Result, Ok, Err, subst}
use Rattle.rsp_phrases.specs.Exact.{Reads}
use Rattle.rsp_phrases.specs.Languages.{Language}
use Rattle.rsp_phrases.specs.Readers.{Reading}
use Rattle.rsp_written.specs.declared.reading.Halt.{Halt}
use Rattle.rsp_written.specs.declared.reading.Halt.TheVariants as halt
use Rattle.rsp_written.specs.declared.said.Said.{Said}
use Rattle.rsp_written.specs.Gives.{Gives}
use Rattle.rsp_read_queries.specs.Says.{Says}

pub says : {X A : Type 0} (view : X → A × List Said) (rule : Language Said A) (ts : List Said) (result : Result X Halt) (read : Reading Said A)
    → Gives view result read → Reads rule ts read → Says view rule ts result
says view rule ts (Ok x) read is h = subst (λ r. Reads rule ts r) is h
says view rule ts (Err halt.OutOfMemory) read is h = tt
says view rule ts (Err (halt.Wrong left)) read is h = subst (λ r. Reads rule ts r) is h
