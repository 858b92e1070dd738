-- Definitions: what a call has written of a text, by its status; and what each answer says where named files are read first.
use Rattle.std.specs.Prelude.{◌≡◌, ◌⊎◌, ℕ, true, false, List, [], ◌++◌}
use Rattle.std.specs.List.{list_any}
use Rattle.rsp_io.specs.Seen.{SinkSeen}
use Rattle.rsp_words.specs.declared.form.Form.{Form}
use Rattle.rsp_modes.specs.declared.status.Status.{Status}
use Rattle.rsp_modes.specs.declared.status.Status.TheVariants.{Done, DoneWithRefusals, ReadFault, WriteFault, OutOfMemory, TooLong}
use Rattle.rsp_modes.specs.Output.{Saying, is_refusal, text_of}
use Rattle.rsp_modes.specs.Shelves.{ShelfSeen, ReadsAll, EndsAt, CantRead, IsTooLong, LacksMemory}
use Rattle.rsp_modes.specs.Sinks.{Wrote, WriteFailed}

-- the first so many things that are said were written, each whole
pub record WroteFront (form : Form) (said : List Saying) (sink sink' : SinkSeen) : Type 0 where
  pub front : List Saying
  pub rest : List Saying
  pub whole : said ≡ front ++ rest
  pub written : Wrote sink sink' (text_of form front)

-- what is said was written, in which something is refused, or nothing; or a write failed, or memory was refused on the way
abbrev pub Told : Form → List Saying → SinkSeen → SinkSeen → Status → Type 0
Told form said sink sink' Done = Wrote sink sink' (text_of form said) × (list_any is_refusal said ≡ false)
Told form said sink sink' DoneWithRefusals = Wrote sink sink' (text_of form said) × (list_any is_refusal said ≡ true)
Told form said sink sink' WriteFault = WriteFailed sink sink' (text_of form said)
Told form said sink sink' OutOfMemory = WroteFront form said sink sink'
Told form said sink sink' _ = ⊥

-- why a file wasn't read that may have so many bytes
abbrev pub Unread : ℕ → Status → ShelfSeen → ShelfSeen → List ℕ → Type 0
Unread most ReadFault = CantRead most
Unread most OutOfMemory = LacksMemory most
Unread most TooLong = IsTooLong most
Unread most _ = λ _ _ _. ⊥

-- what is said of the bytes of some files
abbrev pub SayingOf : Type 0
SayingOf = List (List ℕ) → List Saying

-- the files of these names are read, in this order, before anything is written; or one of them isn't read, and nothing is written
abbrev pub AnswersFiles : ℕ → Form → List (List ℕ) → SayingOf → ShelfSeen → ShelfSeen → SinkSeen → SinkSeen → Status → Type 0
AnswersFiles most form names said before now sink sink' status =
    ((files : List (List ℕ))
    × ReadsAll most before now names files
    × Told form (said files) sink sink' status)
    ⊎ (EndsAt most (Unread most status) before now names × Wrote sink sink' [])
