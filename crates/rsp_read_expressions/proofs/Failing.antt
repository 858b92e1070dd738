-- A reader that stops where a part of it does.
use Rattle.std.proofs.Common.{◌≡◌, ℕ, Err}
use Rattle.rsp_phrases.specs.Readers.{Reading}
use Rattle.rsp_written.specs.declared.said.Said.{Said}
use Rattle.rsp_written.specs.declared.reading.Halt.{Halt}
use Rattle.rsp_written.specs.declared.reading.Halt.TheVariants as halt
use Rattle.rsp_written.specs.Gives.{Fails}

pub fails_of : {A B : Type 0} (e : Halt) (read : Reading Said A) (all : Reading Said B)
    → ((left : ℕ) → read ≡ Err left → all ≡ Err left) → Fails e read → Fails e all
fails_of halt.OutOfMemory read all by h = tt
fails_of (halt.Wrong left) read all by h = by left h
