-- The answers where named files are read, from what was read and how the writing ended.
use Rattle.std.proofs.Common.{◌≡◌, inl, inr, ℕ, Bool, true, false, Result, Ok, Err, List, [], ◌∷◌, refl, sym}
use Rattle.rsp_io.specs.Seen.{SinkSeen}
use Rattle.rsp_spec.specs.Limits.{most_file_bytes}
use Rattle.rsp_modes.specs.declared.reading.Unread.{Unread}
use Rattle.rsp_modes.specs.declared.reading.Unread.TheVariants as unread
use Rattle.rsp_words.specs.declared.form.Form.{Form}
use Rattle.rsp_modes.specs.declared.status.Status.{Status}
use Rattle.rsp_modes.specs.declared.stop.Stop.{Stop}
use Rattle.rsp_modes.specs.declared.stop.Stop.TheVariants.{Memory, Write}
use Rattle.rsp_modes.specs.FileAnswers.{AnswersFiles, SayingOf, Told}
use Rattle.rsp_modes.specs.Output.{Saying}
use Rattle.rsp_modes.specs.Readings as readings
use Rattle.rsp_modes.specs.Sayings.{Says}
use Rattle.rsp_modes.specs.Shelves.{ShelfSeen, EndsAt, ReadsAll, ReadsWhole}
use Rattle.rsp_modes.specs.Stops.{status_of}
use Rattle.rsp_modes.proofs.Writings.{wrote_nothing}

-- how the saying ended, by the status that it gives
pub told_said : (form : Form) (said : List Saying) (sink sink' : SinkSeen) (result : Result Bool Stop) → Says form sink sink' said result → Told form said sink sink' (status_of result)
told_said form said sink sink' (Ok false) says = (says.0, sym says.1)
told_said form said sink sink' (Ok true) says = (says.0, sym says.1)
told_said form said sink sink' (Err Memory) says = says
told_said form said sink sink' (Err Write) says = says

-- all files were read
pub told : (form : Form) (names : List (List ℕ)) (said : SayingOf) (before now : ShelfSeen) (sink sink' : SinkSeen) (files : List (List ℕ)) (result : Result Bool Stop) → ReadsAll most_file_bytes before now names files → Says form sink sink' (said files) result → AnswersFiles most_file_bytes form names said before now sink sink' (status_of result)
told form names said before now sink sink' files result read says = inl (files, read, told_said form (said files) sink sink' result says)

pub told_one : (form : Form) (name : List ℕ) (said : SayingOf) (before now : ShelfSeen) (sink sink' : SinkSeen) (bytes : List ℕ) (result : Result Bool Stop) → ReadsWhole most_file_bytes before now name bytes → Says form sink sink' (said (bytes ∷ [])) result → AnswersFiles most_file_bytes form (name ∷ []) said before now sink sink' (status_of result)
told_one form name said before now sink sink' bytes result read says =
    told form (name ∷ []) said before now sink sink' (bytes ∷ []) result (now, read, refl) says

-- by the status, and by other words for what they say
pub files_told : (form : Form) (names : List (List ℕ)) (said : SayingOf) (before now : ShelfSeen) (sink sink' : SinkSeen) (files : List (List ℕ)) (result : Result Bool Stop) (other : List Saying) (status : Status) → status ≡ status_of result → other ≡ said files → ReadsAll most_file_bytes before now names files → Says form sink sink' other result → AnswersFiles most_file_bytes form names said before now sink sink' status
files_told form names said before now sink sink' files result other status is same read says =
    rw is (told form names said before now sink sink' files result read (rw same at says))

-- one of them wasn't read
pub not_read_any : (form : Form) (names : List (List ℕ)) (said : SayingOf) (before now : ShelfSeen) (sink : SinkSeen) (why : Unread) → EndsAt most_file_bytes (readings.Ends why) before now names → AnswersFiles most_file_bytes form names said before now sink sink (readings.status_of_unread why)
not_read_any form names said before now sink unread.Memory ends = inr (ends, wrote_nothing sink)
not_read_any form names said before now sink unread.Fault ends = inr (ends, wrote_nothing sink)
not_read_any form names said before now sink unread.TooLong ends = inr (ends, wrote_nothing sink)

-- the one file wasn't read
pub not_read : (form : Form) (name : List ℕ) (said : SayingOf) (before now : ShelfSeen) (sink : SinkSeen) (why : Unread) → readings.Ends why before now name → AnswersFiles most_file_bytes form (name ∷ []) said before now sink sink (readings.status_of_unread why)
not_read form name said before now sink why ends = not_read_any form (name ∷ []) said before now sink why (inl ends)

pub files_unread : (form : Form) (names : List (List ℕ)) (said : SayingOf) (before now : ShelfSeen) (sink : SinkSeen) (why : Unread) (status : Status) → status ≡ readings.status_of_unread why → EndsAt most_file_bytes (readings.Ends why) before now names → AnswersFiles most_file_bytes form names said before now sink sink status
files_unread form names said before now sink why status is ends = rw is (not_read_any form names said before now sink why ends)
