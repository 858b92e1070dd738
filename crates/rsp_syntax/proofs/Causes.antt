-- What a text is is never want of memory.
use Rattle.std.proofs.Common.{◌≡◌, ℕ, List, Err}
use Rattle.rsp_syntax.specs.Deciding.{parse}
use Rattle.rsp_syntax.specs.declared.fault.SyntaxFault.TheVariants.{OutOfMemory}
use Rattle.rsp_syntax.proofs.Tied.{tied}

pub never_memory : (text : List ℕ) → parse text ≡ Err OutOfMemory → ⊥
never_memory text h = (tied text (Err OutOfMemory)).0 h
