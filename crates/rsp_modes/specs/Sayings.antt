-- Words of the way: how the writing of what is said ends.
use Rattle.std.specs.Prelude.{◌≡◌, Bool, Result, Ok, Err, List}
use Rattle.std.specs.List.{list_any}
use Rattle.rsp_io.specs.Seen.{SinkSeen}
use Rattle.rsp_words.specs.declared.form.Form.{Form}
use Rattle.rsp_modes.specs.declared.stop.Stop.{Stop}
use Rattle.rsp_modes.specs.declared.stop.Stop.TheVariants.{Memory, Write}
use Rattle.rsp_modes.specs.FileAnswers.{WroteFront}
use Rattle.rsp_modes.specs.Output.{Saying, is_refusal, text_of}
use Rattle.rsp_modes.specs.Sinks.{Wrote, WriteFailed}

-- it was written, and it is known whether something of it is a refusal; or the call stopped on the way
abbrev pub Says : Form → SinkSeen → SinkSeen → List Saying → Result Bool Stop → Type 0
Says form before now said (Ok refused) = Wrote before now (text_of form said) × (refused ≡ list_any is_refusal said)
Says form before now said (Err Memory) = WroteFront form said before now
Says form before now said (Err Write) = WriteFailed before now (text_of form said)
