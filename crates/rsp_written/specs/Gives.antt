-- Words of the way: a reader of the code gives what the function on rows of tokens gives, unless memory ran out.
use Rattle.std.specs.Prelude.{◌≡◌, ⊤, List, Result, Ok, Err}
use Rattle.rsp_phrases.specs.Readers.{Reading}
use Rattle.rsp_written.specs.declared.said.Said.{Said}
use Rattle.rsp_written.specs.declared.reading.Halt.{Halt}
use Rattle.rsp_written.specs.declared.reading.Halt.TheVariants as halt

abbrev pub Fails : {A : Type 0} → Halt → Reading Said A → Type 0
Fails halt.OutOfMemory read = ⊤
Fails (halt.Wrong left) read = read ≡ Err left

abbrev pub Gives : {X A : Type 0} → (X → A × List Said) → Result X Halt → Reading Said A → Type 0
Gives view (Ok x) read = read ≡ Ok (view x)
Gives view (Err e) read = Fails e read
