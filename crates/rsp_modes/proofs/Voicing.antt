-- What is said, told by a voice: one saying behind another.
use Rattle.std.proofs.Common.{◌≡◌, ℕ, ◌+◌, Bool, true, ◌||◌, Option, Some, None, Result, Ok, Err, IfOk, List, [], ◌∷◌, ◌++◌, refl, sym, ◌∙◌, ap, append_assoc, append-nil}
use Rattle.std.proofs.lemmas.Grind.{flat_map-append}
use Rattle.std.proofs.lemmas.List.Folds.{list_any-append}
use Rattle.std.specs.List.{list_any}
use Rattle.std.specs.Option.{is_some}
use Rattle.rsp_io.specs.Seen.{SinkSeen}
use Rattle.rsp_engine.specs.declared.report.Report.{Report}
use Rattle.rsp_words.specs.declared.form.Form.{Form}
use Rattle.rsp_modes.specs.declared.refusals.Place.{Place}
use Rattle.rsp_modes.specs.declared.stop.Stop.{Stop}
use Rattle.rsp_modes.specs.declared.stop.Stop.TheVariants.{Memory, Write}
use Rattle.rsp_modes.specs.declared.voice.Tally.{Tally}
use Rattle.rsp_modes.specs.declared.voice.Voice.{Voice}
use Rattle.rsp_modes.specs.declared.voice.Voice.TheVariants.{Writes, Counts}
use Rattle.rsp_modes.specs.Output.{Saying, a_report, is_refusal, text_of, text_of_report, text_of_saying}
use Rattle.rsp_modes.specs.Refusals.{Reason, refusal_line}
use Rattle.rsp_modes.specs.Sayings as sayings
use Rattle.rsp_modes.specs.Sinks.{Wrote}
use Rattle.rsp_modes.specs.Stops.{Ends, IsLineOf, Stays, Stops}
use Rattle.rsp_modes.specs.Summaries.{rows_in}
use Rattle.rsp_modes.specs.Voices.{FailsToSay, Said, SaidFront, Says, StopsSaying, Tells, refusal_said}
use Rattle.rsp_modes.proofs.Counted.{counts_more, counts_none, counts_report, counts_refusal}
use Rattle.rsp_modes.proofs.Writings as writings
use Rattle.rsp_modes.proofs.Writings.{wrote_more, wrote_nothing, wrote_part}

pub text_of-append : (form : Form) (xs ys : List Saying) → text_of form (xs ++ ys) ≡ text_of form xs ++ text_of form ys
text_of-append form xs ys = flat_map-append (text_of_saying form) xs ys

-- ---- one and then the other

pub said_nothing : (voice : Voice) (sink : SinkSeen) → Said voice voice sink sink []
said_nothing (Writes form) sink = (refl, wrote_nothing sink)
said_nothing (Counts tally) sink = (refl, counts_none tally)

pub said_more : (a b c : Voice) (s t u : SinkSeen) (xs ys : List Saying) → Said a b s t xs → Said b c t u ys → Said a c s u (xs ++ ys)
said_more (Writes f) (Writes g) (Writes h) s t u xs ys first second = (
  second.0 ∙ first.0,
  rw (text_of-append f xs ys) (wrote_more s t u _ _ first.1 (rw first.0 at second.1)),
)
said_more (Writes f) (Writes g) (Counts c) s t u xs ys first second = absurd second
said_more (Writes f) (Counts b) c s t u xs ys first second = absurd first
said_more (Counts a) (Writes g) c s t u xs ys first second = absurd first
said_more (Counts a) (Counts b) (Writes h) s t u xs ys first second = absurd second
said_more (Counts a) (Counts b) (Counts c) s t u xs ys first second = (second.0 ∙ first.0, counts_more a b c xs ys first.1 second.1)

fails_before_more : (a : Voice) (s t : SinkSeen) (xs ys : List Saying) → FailsToSay a s t xs → FailsToSay a s t (xs ++ ys)
fails_before_more (Writes f) s t xs ys fails = rw (text_of-append f xs ys) (writings.stops_before_more s t _ _ Write fails)
fails_before_more (Counts a) s t xs ys fails = absurd fails

pub stops_before_more : (a b : Voice) (s t : SinkSeen) (xs ys : List Saying) (why : Stop) → StopsSaying why a b s t xs → StopsSaying why a b s t (xs ++ ys)
stops_before_more a b s t xs ys Memory stops =
    record {
      front = stops.front;
      rest = stops.rest ++ ys;
      whole = ap (λ said. said ++ ys) stops.whole ∙ append_assoc stops.front stops.rest ys;
      told = stops.told;
    }
stops_before_more a b s t xs ys Write stops = fails_before_more a s t xs ys stops

fails_behind : (a b : Voice) (s t u : SinkSeen) (xs ys : List Saying) → Said a b s t xs → FailsToSay b t u ys → FailsToSay a s u (xs ++ ys)
fails_behind (Writes f) (Writes g) s t u xs ys first fails =
    rw (text_of-append f xs ys) (writings.stops_behind s t u _ _ Write first.1 (rw first.0 at fails))
fails_behind (Writes f) (Counts b) s t u xs ys first fails = absurd first
fails_behind (Counts a) (Writes g) s t u xs ys first fails = absurd first
fails_behind (Counts a) (Counts b) s t u xs ys first fails = absurd fails

pub stops_behind : (a b c : Voice) (s t u : SinkSeen) (xs ys : List Saying) (why : Stop) → Said a b s t xs → StopsSaying why b c t u ys → StopsSaying why a c s u (xs ++ ys)
stops_behind a b c s t u xs ys Memory first stops =
    record {
      front = xs ++ stops.front;
      rest = stops.rest;
      whole = ap (λ said. xs ++ said) stops.whole ∙ sym (append_assoc xs stops.front stops.rest);
      told = said_more a b c s t u xs stops.front first stops.told;
    }
stops_behind a b c s t u xs ys Write first stops = fails_behind a b s t u xs ys first stops

pub stops_at_once : (voice : Voice) (sink : SinkSeen) (said : List Saying) → SaidFront voice voice sink sink said
stops_at_once voice sink said = record { front = []; rest = said; whole = refl; told = said_nothing voice sink }

pub says_both : (a b c : Voice) (s t u : SinkSeen) (xs ys : List Saying) (x y : Bool) → Says a b s t xs (Ok x) → Says b c t u ys (Ok y) → Says a c s u (xs ++ ys) (Ok (x || y))
says_both a b c s t u xs ys x y first second = (
  said_more a b c s t u xs ys first.0 second.0,
  rw (first.1, second.1) (sym (list_any-append is_refusal xs ys)),
)

-- ---- one saying

-- a text that was written whole, or of which nothing was
pub says_report : (form : Form) (s t : SinkSeen) (report : Report) (result : Result (Unit {0}) Stop) → Ends s t (text_of_report form report) result → Stays s t result → Tells (Writes form) (Writes form) s t (a_report report ∷ []) result
says_report form s t report (Ok done) ends stays = (refl, rw (append-nil (text_of_report form report)) ends)
says_report form s t report (Err Memory) ends stays = rw stays (stops_at_once (Writes form) s _)
says_report form s t report (Err Write) ends stays = rw (append-nil (text_of_report form report)) ends

pub says_refusal : (form : Form) (s t : SinkSeen) (place : Place) (reason : Option Reason) (result : Result Bool Stop) → ((text : List ℕ) → IsLineOf place reason text → Ends s t text result) → Stays s t result → IfOk result (λ refused. (refused ≡ true) × (is_some reason ≡ true)) → Says (Writes form) (Writes form) s t (refusal_said place reason) result
says_refusal form s t place None (Ok refused) ends stays is = cc
says_refusal form s t place (Some reason) (Ok refused) ends stays is = ((refl, rw (append-nil (refusal_line place reason)) (ends _ refl)), is.0)
says_refusal form s t place reason (Err Memory) ends stays is = rw stays (stops_at_once (Writes form) s _)
says_refusal form s t place None (Err Write) ends stays is = ends [] tt
says_refusal form s t place (Some reason) (Err Write) ends stays is = rw (append-nil (refusal_line place reason)) (ends _ refl)

-- what is written by itself
pub says_one : (form : Form) (s t : SinkSeen) (saying : Saying) (result : Result Bool Stop) → Ends s t (text_of_saying form saying) result → Stays s t result → IfOk result (λ refused. refused ≡ list_any is_refusal (saying ∷ [])) → sayings.Says form s t (saying ∷ []) result
says_one form s t saying (Ok refused) ends stays is = (rw (append-nil (text_of_saying form saying)) ends, is)
says_one form s t saying (Err Memory) ends stays is = record { front = []; rest = saying ∷ []; whole = refl; written = rw stays (wrote_nothing s) }
says_one form s t saying (Err Write) ends stays is = rw (append-nil (text_of_saying form saying)) ends

-- what was counted
pub counts_one : (before now : Tally) (sink : SinkSeen) (report : Report) → now.reports ≡ before.reports + 1 → now.rows ≡ before.rows + rows_in report.outcome → Said (Counts before) (Counts now) sink sink (a_report report ∷ [])
counts_one before now sink report reports rows = (refl, counts_report before now report reports rows)

pub counts_refused : (tally : Tally) (sink : SinkSeen) (place : Place) (reason : Option Reason) → is_some reason ≡ true → Says (Counts tally) (Counts tally) sink sink (refusal_said place reason) (Ok true)
counts_refused tally sink place None some = cc
counts_refused tally sink place (Some reason) some = ((refl, counts_refusal tally place reason), refl)

pub counts_no_refusal : (tally : Tally) (sink : SinkSeen) (said : List Saying) → Says (Counts tally) (Counts tally) sink sink said (Err Memory)
counts_no_refusal tally sink said = stops_at_once (Counts tally) sink said

-- ---- what was written

pub wrote_of : (form : Form) (after : Voice) (s t : SinkSeen) (said : List Saying) → Said (Writes form) after s t said → Wrote s t (text_of form said)
wrote_of form (Writes other) s t said told = told.1
wrote_of form (Counts tally) s t said told = absurd told

pub stops_of : (form : Form) (after : Voice) (s t : SinkSeen) (said : List Saying) (why : Stop) → StopsSaying why (Writes form) after s t said → sayings.Says form s t said (Err why)
stops_of form after s t said Memory stops =
    record { front = stops.front; rest = stops.rest; whole = stops.whole; written = wrote_of form after s t stops.front stops.told }
stops_of form after s t said Write stops = stops

pub written_says : (form : Form) (after : Voice) (s t : SinkSeen) (said : List Saying) (result : Result Bool Stop) → Says (Writes form) after s t said result → sayings.Says form s t said result
written_says form after s t said (Ok refused) says = (wrote_of form after s t said says.0, says.1)
written_says form after s t said (Err why) says = stops_of form after s t said why says
