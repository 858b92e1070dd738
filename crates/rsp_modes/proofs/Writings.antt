-- One text written behind another.
use Rattle.std.proofs.Common.{◌≡◌, ℕ, ◌+◌, ◌-◌, ◌<◌, ◌≤◌, List, [], ◌++◌, length, take, drop, Option, Some, None, Result, Ok, Err, refl, sym, ◌∙◌, ap, append_assoc, arith, length-append, length-drop, min}
use Rattle.std.proofs.lemmas.List.{append-nil, length-take, take-append-drop}
use Rattle.std.proofs.Math.Seq.{take-add}
use Rattle.std.specs.Option.{IfSome}
use Rattle.std.specs.Io.KnownBytes.{Appends}
use Rattle.rsp_io.specs.Seen.{SinkSeen}
use Rattle.rsp_io.specs.Writing.{Lowers}
use Rattle.rsp_modes.specs.declared.stop.Stop.{Stop}
use Rattle.rsp_modes.specs.declared.stop.Stop.TheVariants.{Memory, Write}
use Rattle.rsp_spec.specs.Faults.{Rose}
use Rattle.rsp_spec.specs.Written.{AppendsPart}
use Rattle.rsp_modes.specs.Sinks.{Wrote, WrotePart, WriteFailed}
use Rattle.rsp_modes.specs.Stops.{Stops, Ends}

min-left : (a b : ℕ) → a ≤ b → min a b ≡ a
min-left a b le = omega arith

-- bytes that are known are known again
appended_nothing : (taken : Option (List ℕ)) → Appends taken taken []
appended_nothing None = tt
appended_nothing (Some bytes) = sym (append-nil bytes)

appended_more : (a b c : Option (List ℕ)) (x y : List ℕ) → Appends a b x → Appends b c y → Appends a c (x ++ y)
appended_more None b c x y first second = tt
appended_more (Some a) None c x y first second = absurd first
appended_more (Some a) (Some b) None x y first second = absurd second
appended_more (Some a) (Some b) (Some c) x y first second = second ∙ (ap (λ bytes. bytes ++ y) first ∙ append_assoc a x y)

lowered_nothing : (room : Option ℕ) → Lowers room room 0
lowered_nothing None = tt
lowered_nothing (Some room) = omega arith

lowered_more : (a b c : Option ℕ) (m n : ℕ) → Lowers a b m → Lowers b c n → Lowers a c (m + n)
lowered_more None b c m n first second = tt
lowered_more (Some a) None c m n first second = absurd first
lowered_more (Some a) (Some b) None m n first second = absurd second
lowered_more (Some a) (Some b) (Some c) m n first second = omega (arith, first, second)

filled_more : (a b : Option ℕ) (m n : ℕ) → Lowers a b m → IfSome b (λ room. room < n) → IfSome a (λ room. room < m + n)
filled_more None b m n lowers full = tt
filled_more (Some a) None m n lowers full = absurd lowers
filled_more (Some a) (Some b) m n lowers full = omega (arith, lowers, full)

is_too_little : (room : Option ℕ) (n : ℕ) → 1 ≤ n → IfSome room (λ room. room ≡ 0) → IfSome room (λ room. room < n)
is_too_little None n low none = tt
is_too_little (Some room) n low none = rw none low

rose_behind : (a b c : ℕ) → b ≡ a → Rose b c → Rose a c
rose_behind a b c same rose = rw same at rose

-- nothing is written yet
pub wrote_nothing : (sink : SinkSeen) → Wrote sink sink []
wrote_nothing sink = record { appended = appended_nothing sink.taken; lowered = lowered_nothing sink.room; faultless = refl }

pub wrote_more : (a b c : SinkSeen) (x y : List ℕ) → Wrote a b x → Wrote b c y → Wrote a c (x ++ y)
wrote_more a b c x y first second =
    record {
      appended = appended_more a.taken b.taken c.taken x y first.appended second.appended;
      lowered = rw (length-append x y) (lowered_more a.room b.room c.room _ _ first.lowered second.lowered);
      faultless = second.faultless ∙ first.faultless;
    }

-- a text of which the first bytes are written
pub record Writing (before now : SinkSeen) (text : List ℕ) (written : ℕ) : Type 0 where
  pub wrote : Wrote before now (take written text)
  pub within : written ≤ length text

-- more of a text
pub write_on : (before mid now : SinkSeen) (text : List ℕ) (written n : ℕ) → Writing before mid text written → n ≤ length (drop written text) → Appends mid.taken now.taken (take n (drop written text)) → Lowers mid.room now.room n → now.faults ≡ mid.faults → Writing before now text (written + n)
write_on before mid now text written n so_far fits appended lowered faultless =
    let behind : length (drop written text) ≡ length text - written = length-drop written text in
    let size : length (take n (drop written text)) ≡ n = length-take n (drop written text) ∙ min-left n _ fits in
    let more : Wrote mid now (take n (drop written text)) = record { appended = appended; lowered = rw size lowered; faultless = faultless } in
    record {
      wrote = rw (take-add written n text) (wrote_more _ _ _ _ _ so_far.wrote more);
      within = omega (arith, so_far.within);
    }

-- a write failed where no room was left
pub write_failed : (before mid now : SinkSeen) (text : List ℕ) (written : ℕ) → Writing before mid text written → written < length text → now.taken ≡ mid.taken → IfSome mid.room (λ room. room ≡ 0) → Rose mid.faults now.faults → WriteFailed before now text
write_failed before mid now text written so_far below same full rose =
    record {
      part = (take written text, rw same so_far.wrote.appended, (drop written text, sym (take-append-drop written text)));
      full =
          let size : length (take written text) + (length text - written) ≡ length text =
          rw (length-take written text) (omega (arith, min-left written (length text) so_far.within)) in
          let least : 1 ≤ length text - written = omega arith in
          rw (← size) (filled_more before.room mid.room _ _ so_far.wrote.lowered (is_too_little mid.room _ least full));
      rose = rose_behind before.faults mid.faults now.faults so_far.wrote.faultless rose;
    }

lt_more : (room : Option ℕ) (m n : ℕ) → IfSome room (λ room. room < m) → IfSome room (λ room. room < m + n)
lt_more None m n less = tt
lt_more (Some room) m n less = omega arith

part_behind : (a b c : SinkSeen) (x y : List ℕ) → Wrote a b x → AppendsPart b.taken c.taken y → AppendsPart a.taken c.taken (x ++ y)
part_behind a b c x y first done = (
  x ++ done.0,
  appended_more a.taken b.taken c.taken x done.0 first.appended done.1,
  (done.2.0, ap (λ text. x ++ text) done.2.1 ∙ sym (append_assoc x done.0 done.2.0)),
)

-- a part of a text is a part of the text with more behind it
part_of_more : (before now : Option (List ℕ)) (x y : List ℕ) → AppendsPart before now x → AppendsPart before now (x ++ y)
part_of_more before now x y done = (done.0, done.1, (done.2.0 ++ y, ap (λ text. text ++ y) done.2.1 ∙ append_assoc done.0 done.2.0 y))

-- a text that is written is a part of the text with more behind it
pub wrote_part : (before now : SinkSeen) (x y : List ℕ) → Wrote before now x → WrotePart before now (x ++ y)
wrote_part before now x y wrote = record { part = (x, wrote.appended, (y, refl)); faultless = wrote.faultless }

-- what stopped a text stops the text with more behind it
pub stops_before_more : (before now : SinkSeen) (x y : List ℕ) (why : Stop) → Stops before now x why → Stops before now (x ++ y) why
stops_before_more before now x y Memory stops = record { part = part_of_more before.taken now.taken x y stops.part; faultless = stops.faultless }
stops_before_more before now x y Write stops =
    record {
      part = part_of_more before.taken now.taken x y stops.part;
      full = rw (length-append x y) (lt_more before.room (length x) (length y) stops.full);
      rose = stops.rose;
    }

-- what stopped a text behind another stops both
pub stops_behind : (a b c : SinkSeen) (x y : List ℕ) (why : Stop) → Wrote a b x → Stops b c y why → Stops a c (x ++ y) why
stops_behind a b c x y Memory first stops =
    record { part = part_behind a b c x y first stops.part; faultless = stops.faultless ∙ first.faultless }
stops_behind a b c x y Write first stops =
    record {
      part = part_behind a b c x y first stops.part;
      full = rw (length-append x y) (filled_more a.room b.room _ _ first.lowered stops.full);
      rose = rose_behind a.faults b.faults c.faults first.faultless stops.rose;
    }

-- a text is written, or stopped, behind another
pub ends_behind : {T : Type 0} (a b c : SinkSeen) (x y : List ℕ) (result : Result T Stop) → Wrote a b x → Ends b c y result → Ends a c (x ++ y) result
ends_behind a b c x y (Ok value) first ends = wrote_more a b c x y first ends
ends_behind a b c x y (Err why) first ends = stops_behind a b c x y why first ends

-- nothing was written of any text
pub stopped_at_once : (sink : SinkSeen) (text : List ℕ) → WrotePart sink sink text
stopped_at_once sink text = record { part = ([], (wrote_nothing sink).appended, (text, refl)); faultless = refl }
