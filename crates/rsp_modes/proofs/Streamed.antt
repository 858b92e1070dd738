-- What recorded streams give, a turn at a time; and that it is what they are defined to give.
use Rattle.std.proofs.Common.{◌≡◌, ℕ, Bool, zero, suc, ◌+◌, ◌<◌, ◌≤◌, List, [], ◌∷◌, ◌++◌, drop, length, Option, None, Some, Result, Ok, refl, subst, sym, ◌∙◌, ap, append_assoc, append-nil, arith}
use Rattle.std.specs.Prelude.{MatchOption, OnOk}
use Rattle.std.specs.List.{slice_get}
use Rattle.std.proofs.lemmas.Grind.{flat_map-append}
use Rattle.std.proofs.lemmas.Option.{slice_get_past}
use Rattle.rsp_io.specs.Seen.{SinkSeen}
use Rattle.rsp_events.specs.declared.refused.LineRefused.{LineRefused}
use Rattle.rsp_engine.specs.Stands.{State, Stands}
use Rattle.rsp_engine.specs.World.{empty_world}
use Rattle.rsp_modes.specs.declared.drive.Halt.{Halt}
use Rattle.rsp_modes.specs.declared.feed.Batch.{Batch}
use Rattle.rsp_modes.specs.declared.feed.Cut.{Cut}
use Rattle.rsp_words.specs.declared.form.Form.{Form}
use Rattle.rsp_modes.specs.declared.run.RefusedLines.{RefusedLines}
use Rattle.rsp_modes.specs.declared.voice.Voice.{Voice}
use Rattle.rsp_modes.specs.declared.voice.Voice.TheVariants.{Writes}
use Rattle.rsp_modes.specs.Feeding.{AreTimed, AreTimedBatches, batches_given, files_given, lines_left, run_left, run_turns}
use Rattle.rsp_modes.specs.Feeds.{Drove, IsTimedBatch, TakesFrom, given_in, stop_of}
use Rattle.rsp_modes.specs.Output.{Given, run}
use Rattle.rsp_modes.specs.Replays.{given_of, line_given, replayed}
use Rattle.rsp_modes.specs.Sayings.{Says}
use Rattle.rsp_words.specs.Words.{Replay}
use Rattle.rsp_modes.proofs.Driving.{all_driven}
use Rattle.rsp_words.proofs.Places.{behind_place}
use Rattle.rsp_modes.proofs.Voicing.{written_says}

none_behind : {X : Type 0} (xs : List X) (place : ℕ) → slice_get xs place ≡ None → drop place xs ≡ []
none_behind [] zero none = refl
none_behind [] (suc place) none = refl
none_behind (x ∷ xs) zero none = cc
none_behind (x ∷ xs) (suc place) none = none_behind xs place none

below_length : {X : Type 0} (xs : List X) (place : ℕ) (x : X) → slice_get xs place ≡ Some x → place < length xs
below_length [] zero x is = cc
below_length [] (suc place) x is = cc
below_length (y ∷ xs) zero x is = omega arith
below_length (y ∷ xs) (suc place) x is = let low = below_length xs place x is in omega (arith, low)

all_lines : (files : List RefusedLines) → lines_left 0 files ≡ files_given files
all_lines [] = refl
all_lines (read ∷ files) = refl

-- ---- a line

line_next : (files : List RefusedLines) (file line : ℕ) (read : RefusedLines) (refused : LineRefused) → slice_get files file ≡ Some read → slice_get read.lines line ≡ Some refused → lines_left line (drop file files) ≡ line_given read.file refused ∷ lines_left (line + 1) (drop file files)
line_next files file line read refused is_file is_line = rw (behind_place files file read is_file) (rw (behind_place read.lines line refused is_line) refl)

pub takes_line : (files : List RefusedLines) (file line : ℕ) (batches : List Batch) (read : RefusedLines) (refused : LineRefused) (given : List Given) → slice_get files file ≡ Some read → slice_get read.lines line ≡ Some refused → given ≡ line_given read.file refused ∷ [] → run_left files file line batches ≡ given ++ run_left files file (line + 1) batches
takes_line files file line batches read refused given is_file is_line is =
    rw is (ap (λ lines. lines ++ batches_given batches) (line_next files file line read refused is_file is_line))

pub fewer_lines : (files : List RefusedLines) (file line : ℕ) (batches : List Batch) (read : RefusedLines) (refused : LineRefused) → slice_get files file ≡ Some read → slice_get read.lines line ≡ Some refused → run_turns files file (line + 1) batches < run_turns files file line batches
fewer_lines files file line batches read refused is_file is_line =
    let next = ap length (line_next files file line read refused is_file is_line) in omega (arith, next)

-- ---- the end of a file

file_next : (files : List RefusedLines) (file line : ℕ) (read : RefusedLines) → slice_get files file ≡ Some read → slice_get read.lines line ≡ None → lines_left line (drop file files) ≡ lines_left 0 (drop (file + 1) files)
file_next files file line read is_file none =
    rw (behind_place files file read is_file) (rw (none_behind read.lines line none) (sym (all_lines (drop (file + 1) files))))

pub ends_file : (files : List RefusedLines) (file line : ℕ) (batches : List Batch) (read : RefusedLines) → slice_get files file ≡ Some read → slice_get read.lines line ≡ None → run_left files file line batches ≡ run_left files (file + 1) 0 batches
ends_file files file line batches read is_file none = ap (λ lines. lines ++ batches_given batches) (file_next files file line read is_file none)

pub fewer_files : (files : List RefusedLines) (file line : ℕ) (batches : List Batch) (read : RefusedLines) → slice_get files file ≡ Some read → slice_get read.lines line ≡ None → run_turns files (file + 1) 0 batches < run_turns files file line batches
fewer_files files file line batches read is_file none =
    let next = ap length (file_next files file line read is_file none) in
    let low = below_length files file read is_file in
    omega (arith, next, low)

-- ---- a batch

pub takes_batch : (files : List RefusedLines) (file line : ℕ) (batches more : List Batch) (batch : Batch) → slice_get files file ≡ None → batches ≡ batch ∷ more → run_left files file line batches ≡ given_in batch ++ run_left files file line more
takes_batch files file line batches more batch none is = rw (none_behind files file none, is) refl

pub fewer_batches : (files : List RefusedLines) (file line : ℕ) (batches more : List Batch) (batch : Batch) → batches ≡ batch ∷ more → run_turns files file line more < run_turns files file line batches
fewer_batches files file line batches more batch is = rw is (omega arith)

pub no_batch : (files : List RefusedLines) (file line : ℕ) (batches : List Batch) → slice_get files file ≡ None → batches ≡ [] → run_left files file line batches ≡ []
no_batch files file line batches none is = rw (none_behind files file none, is) refl

empty_by : {X : Type 0} (xs : List X) (count : ℕ) → count ≡ length xs → count ≡ 0 → xs ≡ []
empty_by [] count is none = refl
empty_by (x ∷ xs) count is none = absurd (omega (arith, is, none))

-- the next one, or none, of so many
pub takes_next : (files : List RefusedLines) (file line : ℕ) (old new : List Batch) (count count' : ℕ) (batch : Option Batch) → length files ≤ file → count ≡ length old → count' ≡ length new
    → MatchOption batch ((count ≡ 0) × (count' ≡ 0)) (λ x. (old ≡ x ∷ new) × (count' + 1 ≡ count))
    → TakesFrom (Some (run_left files file line old)) (Some (run_left files file line new)) (Ok batch)
takes_next files file line old new count count' None past long long' steps =
    let none = slice_get_past files file past in
    let gone = no_batch files file line old none (empty_by old count long steps.0) in
    let gone' = no_batch files file line new none (empty_by new count' long' steps.1) in
    (gone ∙ sym gone', gone')
takes_next files file line old new count count' (Some batch) past long long' steps = takes_batch files file line old new batch (slice_get_past files file past) steps.0

pub timed_batches : (batches more : List Batch) (batch : Batch) → batches ≡ batch ∷ more → AreTimedBatches batches → IsTimedBatch batch × AreTimedBatches more
timed_batches batches more batch is timed = subst (λ bs. AreTimedBatches bs) is timed

-- ---- what it is made of

pub made : (files : List RefusedLines) (batches : List Batch) → run_left files 0 0 batches ≡ files_given files ++ batches_given batches
made files batches = ap (λ lines. lines ++ batches_given batches) (all_lines files)

pub batch_more : (batches : List Batch) (batch : Batch) → batches_given (batches ++ batch ∷ []) ≡ batches_given batches ++ given_in batch
batch_more batches batch = flat_map-append given_in batches (batch ∷ []) ∙ ap (λ given. batches_given batches ++ given) (append-nil (given_in batch))

timed_more : (batches : List Batch) (batch : Batch) → AreTimedBatches batches → IsTimedBatch batch → AreTimedBatches (batches ++ batch ∷ [])
timed_more [] batch all this = (this, tt)
timed_more (first ∷ batches) batch all this = (all.0, timed_more batches batch all.1 this)

-- two batches more
pub two_timed : (batches : List Batch) (x y : Batch) → AreTimedBatches batches → IsTimedBatch x → IsTimedBatch y → AreTimedBatches ((batches ++ x ∷ []) ++ y ∷ [])
two_timed batches x y all first second = timed_more (batches ++ x ∷ []) y (timed_more batches x all first) second

pub two_given : (batches : List Batch) (x y : Batch) (one : Given) (more : List Given) → given_in x ≡ one ∷ [] → given_in y ≡ more → batches_given ((batches ++ x ∷ []) ++ y ∷ []) ≡ batches_given batches ++ (one ∷ more)
two_given batches x y one more first second =
    batch_more (batches ++ x ∷ []) y
    ∙ (ap (λ given. given ++ given_in y) (batch_more batches x)
    ∙ (append_assoc (batches_given batches) (given_in x) (given_in y)
    ∙ rw (first, second) refl))

-- ---- all of it

pub replayed_is : (replay : Replay) (files : List (List ℕ)) → (run (empty_world 0) (given_of replay files)).said ≡ replayed replay files
replayed_is replay files = refl

pub run_says : (Gave : List Given → Type 0) (Ended : List Given → Option Cut → Type 0) (all rest : List Given) (engine engine' : State) (form : Form) (after : Voice) (s t : SinkSeen) (result : Result Bool Halt) → Drove Gave Ended (Some all) (Some rest) [] engine engine' (Writes form) after s t result → OnOk result (rest ≡ []) → Stands engine (empty_world 0) [] → Says form s t (run (empty_world 0) all).said (stop_of result)
run_says Gave Ended all rest engine engine' form after s t result drove none stands =
    written_says form after s t _ _ (all_driven Gave Ended all rest [] engine engine' (Writes form) after s t result (empty_world 0) drove none stands)
