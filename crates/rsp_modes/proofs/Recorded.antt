-- The files of recorded streams, and their events.
use Rattle.std.proofs.Common.{◌≡◌, ℕ, zero, suc, ◌+◌, ◌-◌, List, [], ◌∷◌, ◌++◌, length, drop, map, Some, refl, sym, ◌∙◌, ap, append_assoc, append-nil, arith, ◌≤◌}
use Rattle.std.specs.List.{AllByRecursion, slice_get}
use Rattle.std.specs.Option.{option_map, option_to_list}
use Rattle.rsp_spec.specs.Limits.{last_instant}
use Rattle.rsp_events.specs.declared.event.Event.{Event}
use Rattle.rsp_events.specs.declared.event.Event.TheVariants as event
use Rattle.rsp_events.specs.declared.recording.RecordedItems.{RecordedItems}
use Rattle.rsp_events.specs.Instants.{AllTimed, IsInstant}
use Rattle.rsp_events.specs.Merged.{item_time}
use Rattle.rsp_events.specs.Recorded.{recorded}
use Rattle.rsp_words.specs.declared.replay.Stream as stream_read
use Rattle.rsp_words.specs.Playing.{stream_for}
use Rattle.rsp_modes.specs.declared.run.RefusedLines.{RefusedLines}
use Rattle.rsp_modes.specs.Feeding.{AreTimed, files_given}
use Rattle.rsp_modes.specs.Recordings.{items_of, last_tick, recordings, with_tick}
use Rattle.rsp_modes.specs.Replays.{all_lines_given, lines_given}
use Rattle.std.proofs.lemmas.Grind.{flat_map-append}
use Rattle.rsp_modes.specs.Summaries.{numbered}
use Rattle.rsp_words.proofs.Places.{behind_place}

-- ---- the files

-- some of them are read
pub record Recording (first : ℕ) (streams : List stream_read.Stream) (files : List (List ℕ)) (before lines : List RefusedLines) (lists : List (List Event)) (document place : ℕ) : Type 0 where
  pub given : files_given lines ++ all_lines_given (map stream_for (drop place streams)) (recordings document (map stream_for (drop place streams)) (drop place files))
      ≡ files_given before ++ all_lines_given (map stream_for streams) (recordings first (map stream_for streams) files)
  pub all : lists ++ items_of (recordings document (map stream_for (drop place streams)) (drop place files))
      ≡ items_of (recordings first (map stream_for streams) files)
  pub timed : AreTimed lists

timed_end : (P : List Event → Type 0) (xs : List (List Event)) (x : List Event) → AllByRecursion P xs → P x → AllByRecursion P (xs ++ x ∷ [])
timed_end P [] x all this = (this, tt)
timed_end P (first ∷ xs) x all this = (all.0, timed_end P xs x all.1 this)

pub recording_none : (first : ℕ) (streams : List stream_read.Stream) (files : List (List ℕ)) (before : List RefusedLines) → Recording first streams files before before [] first 0
recording_none first streams files before = record { given = refl; all = refl; timed = tt }

pub recording_on : (first : ℕ) (streams : List stream_read.Stream) (files : List (List ℕ)) (before lines : List RefusedLines) (lists : List (List Event)) (document place : ℕ) (stream : stream_read.Stream) (file : List ℕ) (read : RecordedItems) (more : RefusedLines) → Recording first streams files before lines lists document place → slice_get streams place ≡ Some stream → slice_get files place ≡ Some file → read ≡ recorded stream.iri.now document file → AllByRecursion IsInstant read.items → lines_given more.file more.lines ≡ lines_given stream.file.now read.refused → Recording first streams files before (lines ++ more ∷ []) (lists ++ read.items ∷ []) (document + 1) (place + 1)
recording_on first streams files before lines lists document place stream file read more so_far is_stream is_file is timed same =
    let streams' = map stream_for (drop (place + 1) streams) in
    let reads = recordings (document + 1) streams' (drop (place + 1) files) in
    let next : recordings document (map stream_for (drop place streams)) (drop place files) ≡ read ∷ reads =
    rw (behind_place streams place stream is_stream, behind_place files place file is_file, is) refl in
    let given : all_lines_given (map stream_for (drop place streams)) (recordings document (map stream_for (drop place streams)) (drop place files)) ≡ lines_given stream.file.now read.refused ++ all_lines_given streams' reads =
    rw next (rw (behind_place streams place stream is_stream) refl) in
    record {
      given =
          rw (flat_map-append (λ (r : RefusedLines). lines_given r.file r.lines) lines (more ∷ []), append-nil (lines_given more.file more.lines), same, append_assoc (files_given lines) (lines_given stream.file.now read.refused) (all_lines_given streams' reads), ← given)
          so_far.given;
      all =
          append_assoc lists (read.items ∷ []) (items_of reads)
          ∙ (ap (λ rs. lists ++ items_of rs) (sym next) ∙ so_far.all);
      timed = timed_end (λ events. AllByRecursion IsInstant events) lists read.items so_far.timed timed;
    }

no_streams : (document : ℕ) (streams : List stream_read.Stream) (files : List (List ℕ)) → streams ≡ [] → recordings document (map stream_for streams) files ≡ []
no_streams document streams files none = rw none refl

no_files : (document : ℕ) (streams : List stream_read.Stream) (files : List (List ℕ)) → files ≡ [] → recordings document (map stream_for streams) files ≡ []
no_files document [] files none = refl
no_files document (stream ∷ streams) files none = rw none refl

-- ---- times

pub numbered_timed : (number : ℕ) (events : List Event) → AllByRecursion IsInstant events → AllTimed (numbered number events)
numbered_timed number [] timed = tt
numbered_timed number (event ∷ events) timed = (timed.0, numbered_timed (number + 1) events timed.1)

time_timed : (e : Event) → IsInstant e → item_time e ≤ last_instant
time_timed (event.Register name text) is = omega arith
time_timed (event.Cancel name) is = omega arith
time_timed (event.Item stream time graph) is = is
time_timed (event.Tick time) is = omega arith
time_timed (event.Insert quads) is = omega arith
time_timed (event.Delete quads) is = omega arith

tick_timed : (items : List Event) (k : ℕ) → AllByRecursion IsInstant items → AllByRecursion IsInstant (option_to_list (option_map (λ item. event.Tick (item_time item)) (slice_get items k)))
tick_timed [] zero timed = tt
tick_timed [] (suc k) timed = tt
tick_timed (item ∷ items) zero timed = (time_timed item timed.0, tt)
tick_timed (item ∷ items) (suc k) timed = tick_timed items k timed.1

events_timed : (xs ys : List Event) → AllByRecursion IsInstant xs → AllByRecursion IsInstant ys → AllByRecursion IsInstant (xs ++ ys)
events_timed [] ys all more = more
events_timed (first ∷ xs) ys all more = (all.0, events_timed xs ys all.1 more)

pub with_tick_timed : (items : List Event) → AllByRecursion IsInstant items → AllByRecursion IsInstant (with_tick items)
with_tick_timed items timed = events_timed items (last_tick items) timed (tick_timed items (length items - 1) timed)
