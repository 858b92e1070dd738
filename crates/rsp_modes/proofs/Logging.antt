-- A log that is read a piece at a time: its turns, and the answers of its ends.
use Rattle.std.proofs.Common.{◌≡◌, ℕ, ◌+◌, ◌-◌, ◌^◌, ◌<◌, ◌≤◌, Bool, true, false, IsTrue, List, [], ◌∷◌, ◌++◌, length, length-append, map, get_or, Result, Ok, Err, Option, Some, None, IfSome, refl, subst, sym, true≢false, ◌∙◌, ap, append_assoc, arith}
use Rattle.std.proofs.lemmas.List.{append-nil, map-append}
use Rattle.std.specs.Io.KnownBytes.{Consumes, IsAtEnd}
use Rattle.std.specs.List.{list_any}
use Rattle.rsp_spec.specs.Faults.{Rose}
use Rattle.rsp_spec.specs.Limits.{most_log_bytes}
use Rattle.rsp_io.specs.Seen.{SinkSeen, SourceSeen}
use Rattle.rsp_io.specs.Reading.{given_after}
use Rattle.rsp_events.specs.declared.event.Block.{Block}
use Rattle.rsp_events.specs.Blocks.{blocks, whole_blocks}
use Rattle.rsp_events.specs.Reader.{Reader, HasRead}
use Rattle.rsp_engine.specs.Stands.{State, Stands}
use Rattle.rsp_modes.specs.declared.drive.Halt.{Halt}
use Rattle.rsp_modes.specs.declared.drive.Halt.TheVariants as halt
use Rattle.rsp_modes.specs.declared.feed.Cut.{Cut}
use Rattle.rsp_modes.specs.declared.feed.Cut.TheVariants as cut
use Rattle.rsp_modes.specs.declared.status.Status.{Status}
use Rattle.rsp_modes.specs.declared.status.Status.TheVariants.{Done, DoneWithRefusals}
use Rattle.rsp_modes.specs.declared.stop.Stop.{Stop}
use Rattle.rsp_modes.specs.declared.stop.Stop.TheVariants.{Memory, Write}
use Rattle.rsp_modes.specs.declared.voice.Voice.{Voice}
use Rattle.rsp_modes.specs.declared.voice.Voice.TheVariants.{Writes}
use Rattle.rsp_modes.specs.LogAnswers.{AnswersLog}
use Rattle.rsp_modes.specs.Feeds.{Came, Drove, SaysAll, status_of_drive}
use Rattle.rsp_modes.specs.FileAnswers.{Told, WroteFront}
use Rattle.rsp_modes.specs.Logs.{Begins, CantGoOn, Finishes, GoesTooFar, LacksMemory, LogEnded, LogGave, Reads, RefusesPiece, TakesPiece, log_turns}
use Rattle.rsp_modes.specs.Output.{Given, Saying, Start, Step, a_block, is_refusal, log_said, output, run, text_of, whole_text}
use Rattle.rsp_modes.specs.Sinks.{Wrote, WrotePart}
use Rattle.rsp_modes.specs.Sources.{Took}
use Rattle.rsp_modes.specs.Sayings.{Says}
use Rattle.rsp_modes.specs.Stops.{status_of}
use Rattle.rsp_modes.proofs.Consuming.{consumed_more, consumed_nothing}
use Rattle.rsp_modes.proofs.Folding.{run-append}
use Rattle.rsp_modes.proofs.Voicing.{stops_of, text_of-append, wrote_of}
use Rattle.rsp_modes.proofs.Writings.{stops_before_more, wrote_part}
use Rattle.rsp_words.specs.declared.form.Form.{Form}

-- ---- bytes that are taken

took_nothing : (source : SourceSeen) → Took source source []
took_nothing source = record { left = consumed_nothing source.left; given = λ below. omega arith }

given_more : (before given after m n : ℕ) → (given < 2 ^ 64 - 1 → given ≡ before + m) → after ≡ given_after given n → after < 2 ^ 64 - 1 → after ≡ before + (m + n)
given_more before given after m n known is below = omega (arith, known, is, below)

took_more : (before mid now : SourceSeen) (x y : List ℕ) → Took before mid x → Consumes mid.left now.left y → now.given ≡ given_after mid.given (length y) → Took before now (x ++ y)
took_more before mid now x y took consumed given =
    record {
      left = consumed_more before.left mid.left now.left x y took.left consumed;
      given = λ below. rw (length-append x y) (given_more before.given mid.given now.given (length x) (length y) took.given given below);
    }

-- nothing more was taken
took_same : (before mid now : SourceSeen) (x : List ℕ) → Took before mid x → now.left ≡ mid.left → now.given ≡ mid.given → Took before now x
took_same before mid now x took left given =
    record { left = rw left took.left; given = λ below. rw given (took.given (rw given at below)) }

-- where the source tells its bytes and is at its end, all were taken
pub all_taken : (before now : Option (List ℕ)) (bytes : List ℕ) → Consumes before now bytes → IsAtEnd now → IfSome before (λ log. log ≡ bytes)
all_taken None now bytes consumed at_end = tt
all_taken (Some log) None bytes consumed at_end = absurd consumed
all_taken (Some log) (Some rest) bytes consumed at_end = consumed ∙ (ap (λ rest. bytes ++ rest) at_end ∙ append-nil bytes)

-- what holds of the log's text, where the source tells its bytes, if it holds however the log goes on
pub of_log : (P : List ℕ → Type 0) (before now : Option (List ℕ)) (bytes : List ℕ) → Consumes before now bytes → ((more : List ℕ) → P (bytes ++ more)) → IfSome before P
of_log P None now bytes consumed holds = tt
of_log P (Some log) None bytes consumed holds = absurd consumed
of_log P (Some log) (Some rest) bytes consumed holds = rw consumed (holds rest)

pub of_all : (P : List ℕ → Type 0) (left : Option (List ℕ)) (bytes : List ℕ) → IfSome left (λ log. log ≡ bytes) → P bytes → IfSome left P
of_all P None bytes all holds = tt
of_all P (Some log) bytes all holds = rw all holds

not_sure : (sure : Bool) → (IsTrue sure → ⊥) → sure ≡ false
not_sure true h = absurd (h refl)
not_sure false h = refl

-- ---- a turn

pub log_begun : (most : ℕ) (reader : Reader) (source : SourceSeen) → HasRead reader [] → Begins reader.document → Reads most 0 reader source source []
log_begun most reader source read begins =
    record {
      bytes = [];
      count = refl;
      short = omega arith;
      took = took_nothing source;
      faultless = refl;
      sure = refl;
      read = read;
      begins = begins;
      blocks = refl;
    }

reads_of : (at_end : Bool) (most taken : ℕ) (reader : Reader) (start now : SourceSeen) (given : List Given) → at_end ≡ false → LogGave at_end most taken reader start now given → Reads most taken reader start now given
reads_of true most taken reader start now given is gave = absurd (true≢false is)
reads_of false most taken reader start now given is gave = gave

pub ended_before : (at_end : Bool) (most taken : ℕ) (reader : Reader) (start now : SourceSeen) (given : List Given) → at_end ≡ true → LogGave at_end most taken reader start now given → Finishes most reader.document start now given
ended_before true most taken reader start now given is gave = gave
ended_before false most taken reader start now given is gave = absurd (true≢false (sym is))

reads_more : (most taken taken' n : ℕ) (reader reader' : Reader) (start source source' : SourceSeen) (given : List Given) (piece : List ℕ) (ended : List Block) → n ≡ length piece → Consumes source.left source'.left piece → source'.given ≡ given_after source.given n → source'.faults ≡ source.faults → source'.sure ≡ source.sure → TakesPiece most taken taken' reader reader' piece ended → Reads most taken reader start source given → Reads most taken' reader' start source' (given ++ map a_block ended)
reads_more most taken taken' n reader reader' start source source' given piece ended size consumed rises faultless sure takes reads =
    let many = takes.count in
    let low = takes.short in
    let here : whole_blocks reader'.document (reads.bytes ++ piece) ≡ whole_blocks reader.document reads.bytes ++ ended =
    ap (λ d. whole_blocks d (reads.bytes ++ piece)) takes.document ∙ takes.blocks reads.bytes reads.read in
    record {
      bytes = reads.bytes ++ piece;
      count = rw (length-append reads.bytes piece, ← reads.count) many;
      short = omega (arith, many, low, reads.short);
      took = took_more start source source' reads.bytes piece reads.took consumed (rw size at rises);
      faultless = faultless ∙ reads.faultless;
      sure = sure ∙ reads.sure;
      read = takes.read reads.bytes reads.read;
      begins = rw takes.document reads.begins;
      blocks =
          ap (λ g. g ++ map a_block ended) reads.blocks
          ∙ (sym (map-append a_block (whole_blocks reader.document reads.bytes) ended) ∙ ap (map a_block) (sym here));
    }

pub gave_piece : (at_end at_end' : Bool) (most most' taken taken' n : ℕ) (reader reader' : Reader) (start source source' : SourceSeen) (given : List Given) (piece : List ℕ) (ended : List Block) → at_end ≡ false → at_end' ≡ at_end → most' ≡ most → n ≡ length piece → Consumes source.left source'.left piece → source'.given ≡ given_after source.given n → source'.faults ≡ source.faults → source'.sure ≡ source.sure → TakesPiece most taken taken' reader reader' piece ended → LogGave at_end most taken reader start source given → LogGave at_end' most' taken' reader' start source' (given ++ map a_block ended)
gave_piece at_end true most most' taken taken' n reader reader' start source source' given piece ended going same same_most size consumed rises faultless sure takes gave =
    absurd (true≢false (same ∙ going))
gave_piece at_end false most most' taken taken' n reader reader' start source source' given piece ended going same same_most size consumed rises faultless sure takes gave =
    rw same_most (reads_more most taken taken' n reader reader' start source source' given piece ended size consumed rises faultless sure takes (reads_of at_end most taken reader start source given going gave))

-- the read gave nothing, so the log is at its end
finishes : (most taken document : ℕ) (reader : Reader) (start source source' : SourceSeen) (given : List Given) (last : List Block) → document ≡ reader.document → Consumes source.left source'.left [] → IsAtEnd source'.left → source'.given ≡ given_after source.given 0 → source'.faults ≡ source.faults → ((bytes : List ℕ) → HasRead reader bytes → blocks reader.document bytes ≡ whole_blocks reader.document bytes ++ last) → Reads most taken reader start source given → Finishes most document start source' (given ++ map a_block last)
finishes most taken document reader start source source' given last same consumed at_end rises faultless ends reads =
    let took : Took start source' reads.bytes = rw (append-nil reads.bytes) at (took_more start source source' reads.bytes [] reads.took consumed rises) in
    let count = reads.count in
    record {
      bytes = reads.bytes;
      short = rw (← count) reads.short;
      took = took;
      faultless = faultless ∙ reads.faultless;
      at_end = at_end;
      blocks =
          rw same
          (ap (λ g. g ++ map a_block last) reads.blocks
          ∙ (sym (map-append a_block (whole_blocks reader.document reads.bytes) last) ∙ ap (map a_block) (sym (ends reads.bytes reads.read))));
    }

pub gave_last : (at_end at_end' : Bool) (most most' taken taken' : ℕ) (reader reader' : Reader) (start source source' : SourceSeen) (given : List Given) (block : Block) → at_end ≡ false → at_end' ≡ true → most' ≡ most → reader'.document ≡ reader.document → Consumes source.left source'.left [] → IsAtEnd source'.left → source'.given ≡ given_after source.given 0 → source'.faults ≡ source.faults → ((bytes : List ℕ) → HasRead reader bytes → blocks reader.document bytes ≡ whole_blocks reader.document bytes ++ (block ∷ [])) → LogGave at_end most taken reader start source given → LogGave at_end' most' taken' reader' start source' (given ++ a_block block ∷ [])
gave_last at_end false most most' taken taken' reader reader' start source source' given block going done same_most document consumed at_its_end rises faultless ends gave =
    absurd (true≢false (sym done))
gave_last at_end true most most' taken taken' reader reader' start source source' given block going done same_most document consumed at_its_end rises faultless ends gave =
    rw same_most (finishes most taken reader'.document reader start source source' given (block ∷ []) document consumed at_its_end rises faultless ends (reads_of at_end most taken reader start source given going gave))

pub ended_last : (at_end : Bool) (most most' taken : ℕ) (reader reader' : Reader) (start source source' : SourceSeen) (given : List Given) → at_end ≡ false → most' ≡ most → reader'.document ≡ reader.document → Consumes source.left source'.left [] → IsAtEnd source'.left → source'.given ≡ given_after source.given 0 → source'.faults ≡ source.faults → ((bytes : List ℕ) → HasRead reader bytes → blocks reader.document bytes ≡ whole_blocks reader.document bytes ++ []) → LogGave at_end most taken reader start source given → Finishes most' reader'.document start source' given
ended_last at_end most most' taken reader reader' start source source' given going same_most document consumed at_its_end rises faultless ends gave =
    let all = finishes most taken reader'.document reader start source source' given [] document consumed at_its_end rises faultless ends (reads_of at_end most taken reader start source given going gave) in
    rw same_most (subst (λ g. Finishes most reader'.document start source' g) (append-nil given) all)

lacks : (most taken document n : ℕ) (reader : Reader) (start source source' : SourceSeen) (given : List Given) (piece : List ℕ) → document ≡ reader.document → n ≡ length piece → n ≤ most - taken → Consumes source.left source'.left piece → source'.given ≡ given_after source.given n → source'.faults ≡ source.faults → Reads most taken reader start source given → LacksMemory most document start source' given
lacks most taken document n reader start source source' given piece same size low consumed rises faultless reads =
    let count = reads.count in
    let short = reads.short in
    let long : length (reads.bytes ++ piece) ≡ taken + n = length-append reads.bytes piece ∙ rw (count, size) refl in
    record {
      bytes = reads.bytes;
      last = piece;
      short = omega (arith, long, low, short);
      took = took_more start source source' reads.bytes piece reads.took consumed (rw size at rises);
      faultless = faultless ∙ reads.faultless;
      begins = rw same reads.begins;
      blocks = rw same reads.blocks;
    }

goes_too_far : (most taken document n : ℕ) (reader : Reader) (start source source' : SourceSeen) (given : List Given) (piece : List ℕ) → document ≡ reader.document → n ≡ length piece → taken ≡ most → 0 < n → Consumes source.left source'.left piece → source'.given ≡ given_after source.given n → source'.faults ≡ source.faults → Reads most taken reader start source given → GoesTooFar most document start source' given
goes_too_far most taken document n reader start source source' given piece same size full some consumed rises faultless reads =
    let count = reads.count in
    record {
      bytes = reads.bytes;
      last = piece;
      whole = omega (arith, count, full);
      more = omega (arith, some, size);
      took = took_more start source source' reads.bytes piece reads.took consumed (rw size at rises);
      faultless = faultless ∙ reads.faultless;
      begins = rw same reads.begins;
      blocks = rw same reads.blocks;
    }

pub ended_refused : (at_end : Bool) (most most' taken n : ℕ) (reader reader' : Reader) (start source source' : SourceSeen) (given : List Given) (piece : List ℕ) (why : Cut) → at_end ≡ false → most' ≡ most → reader'.document ≡ reader.document → n ≡ length piece → (why ≡ cut.TooLong → 0 < n) → RefusesPiece why most taken n → Consumes source.left source'.left piece → source'.given ≡ given_after source.given n → source'.faults ≡ source.faults → LogGave at_end most taken reader start source given → LogEnded most' reader'.document start source' given (Some why)
ended_refused at_end most most' taken n reader reader' start source source' given piece cut.Failed going same_most document size some refuses consumed rises faultless gave = absurd refuses
ended_refused at_end most most' taken n reader reader' start source source' given piece cut.TooLong going same_most document size some refuses consumed rises faultless gave =
    rw same_most (goes_too_far most taken reader'.document n reader start source source' given piece document size refuses (some refl) consumed rises faultless (reads_of at_end most taken reader start source given going gave))
ended_refused at_end most most' taken n reader reader' start source source' given piece cut.Memory going same_most document size some refuses consumed rises faultless gave =
    rw same_most (lacks most taken reader'.document n reader start source source' given piece document size refuses consumed rises faultless (reads_of at_end most taken reader start source given going gave))

-- memory was refused for the block that the end ends
pub ended_last_lacks : (at_end : Bool) (most most' taken : ℕ) (reader reader' : Reader) (start source source' : SourceSeen) (given : List Given) (why : Cut) → why ≡ cut.Memory → at_end ≡ false → most' ≡ most → reader'.document ≡ reader.document → Consumes source.left source'.left [] → source'.given ≡ given_after source.given 0 → source'.faults ≡ source.faults → LogGave at_end most taken reader start source given → LogEnded most' reader'.document start source' given (Some why)
ended_last_lacks at_end most most' taken reader reader' start source source' given why is going same_most document consumed rises faultless gave =
    let low : 0 ≤ most - taken = omega arith in
    rw is
    (ended_refused at_end most most' taken 0 reader reader' start source source' given [] cut.Memory going same_most document refl (λ is. cc) low consumed rises faultless gave)

pub ended_failed : (at_end : Bool) (most taken : ℕ) (reader : Reader) (start source source' : SourceSeen) (given : List Given) → at_end ≡ false → source'.left ≡ source.left → source'.given ≡ source.given → Rose source.faults source'.faults → (IsTrue source.sure → ⊥) → LogGave at_end most taken reader start source given → CantGoOn most reader.document start source' given
ended_failed at_end most taken reader start source source' given going left rises rose unsure gave =
    let reads = reads_of at_end most taken reader start source given going gave in
    let count = reads.count in
    record {
      bytes = reads.bytes;
      short = rw (← count) reads.short;
      took = took_same start source source' reads.bytes reads.took left rises;
      rose = rw reads.faultless at rose;
      unsure = sym reads.sure ∙ not_sure source.sure unsure;
      begins = reads.begins;
      blocks = reads.blocks;
    }

pub fewer_turns : (at_end at_end' : Bool) (most most' taken taken' n : ℕ) → at_end ≡ false → at_end' ≡ at_end → most' ≡ most → taken' ≡ taken + n → n ≤ most - taken → 1 ≤ n → log_turns at_end' most' taken' < log_turns at_end most taken
fewer_turns true at_end' most most' taken taken' n going same same_most count low some = absurd (true≢false going)
fewer_turns false true most most' taken taken' n going same same_most count low some = absurd (true≢false same)
fewer_turns false false most most' taken taken' n going same same_most count low some = omega (arith, same_most, count, low, some)

pub last_turn : (at_end at_end' : Bool) (most most' taken taken' : ℕ) → at_end ≡ false → at_end' ≡ true → log_turns at_end' most' taken' < log_turns at_end most taken
last_turn true at_end' most most' taken taken' going done = absurd (true≢false going)
last_turn false false most most' taken taken' going done = absurd (true≢false (sym done))
last_turn false true most most' taken taken' going done = omega arith

-- ---- what was said of the bytes

-- what blocks say, with more behind them
said_ahead : (start : Start) (xs ys : List Given) → (run start.world (xs ++ ys)).said ≡ (run start.world xs).said ++ (run (run start.world xs).after ys).said
said_ahead start xs ys = ap (λ (s : Step). s.said) (run-append start.world xs ys)

-- what the blocks say that have ended in the bytes
abbrev whole_said : Start → List ℕ → List Saying
whole_said start bytes = (run start.world (map a_block (whole_blocks start.document bytes))).said

abbrev said_later : Start → List ℕ → List Block → List Saying
said_later start bytes rest = (run (run start.world (map a_block (whole_blocks start.document bytes))).after (map a_block rest)).said

said_behind : (start : Start) (bytes more : List ℕ) (rest : List Block) → blocks start.document (bytes ++ more) ≡ whole_blocks start.document bytes ++ rest
    → log_said start (bytes ++ more) ≡ whole_said start bytes ++ said_later start bytes rest
said_behind start bytes more rest is =
    ap (λ bs. (run start.world (map a_block bs)).said) is
    ∙ (ap (λ g. (run start.world g).said) (map-append a_block (whole_blocks start.document bytes) rest)
    ∙ said_ahead start (map a_block (whole_blocks start.document bytes)) (map a_block rest))

behind : (start : Start) (bytes more : List ℕ) (rest : List Block) → blocks start.document (bytes ++ more) ≡ whole_blocks start.document bytes ++ rest
    → output start (bytes ++ more) ≡ whole_text start bytes ++ text_of start.form (said_later start bytes rest)
behind start bytes more rest is =
    ap (text_of start.form) (said_behind start bytes more rest is)
    ∙ text_of-append start.form (whole_said start bytes) (said_later start bytes rest)

-- what was written is how the log's text begins
log_begins : (start : Start) → Begins start.document → (s t : SinkSeen) (bytes more : List ℕ) → Wrote s t (whole_text start bytes) → WrotePart s t (output start (bytes ++ more))
log_begins start law s t bytes more wrote =
    let rest = law bytes more in
    rw (behind start bytes more rest.0 rest.1) (wrote_part s t (whole_text start bytes) _ wrote)

-- and the things said of the bytes are the first of those of the log, each whole
log_front : (start : Start) → Begins start.document → (s t : SinkSeen) (bytes more : List ℕ) → Wrote s t (whole_text start bytes) → WroteFront start.form (log_said start (bytes ++ more)) s t
log_front start law s t bytes more wrote =
    let rest = law bytes more in
    record { front = whole_said start bytes; rest = said_later start bytes rest.0; whole = said_behind start bytes more rest.0 rest.1; written = wrote }

-- what stopped before some is said stops before more
stopped_before : (form : Form) (s t : SinkSeen) (xs ys : List Saying) (why : Stop) → Says form s t xs (Err why) → Says form s t (xs ++ ys) (Err why)
stopped_before form s t xs ys Memory says =
    record { front = says.front; rest = says.rest ++ ys; whole = ap (λ l. l ++ ys) says.whole ∙ append_assoc says.front says.rest ys; written = says.written }
stopped_before form s t xs ys Write says = rw (text_of-append form xs ys) (stops_before_more s t (text_of form xs) (text_of form ys) Write says)

log_stops : (start : Start) → Begins start.document → (s t : SinkSeen) (bytes more : List ℕ) (why : Stop) → Says start.form s t (whole_said start bytes) (Err why) → Says start.form s t (log_said start (bytes ++ more)) (Err why)
log_stops start law s t bytes more why stops =
    let rest = law bytes more in
    subst (λ said. Says start.form s t said (Err why)) (sym (said_behind start bytes more rest.0 rest.1))
    (stopped_before start.form s t (whole_said start bytes) (said_later start bytes rest.0) why stops)

-- ---- the answers

answers_stop : (start : Start) (before now : SourceSeen) (s t : SinkSeen) (bytes : List ℕ) (why : Stop) → Took before now bytes → length bytes ≤ most_log_bytes → now.faults ≡ before.faults → Says start.form s t (log_said start bytes) (Err why) → IfSome before.left (λ log. Says start.form s t (log_said start log) (Err why)) → AnswersLog start before now s t (status_of (Err why))
answers_stop start before now s t bytes Memory took short faultless stops log =
    record { bytes = bytes; took = took; told = stops; log = log; at_end = λ done. absurd (true≢false (sym done)); short = short; faultless = faultless }
answers_stop start before now s t bytes Write took short faultless stops log =
    record { bytes = bytes; took = took; told = stops; log = log; at_end = λ done. absurd (true≢false (sym done)); short = short; faultless = faultless }

answers_end : (start : Start) (before now : SourceSeen) (s t : SinkSeen) (bytes : List ℕ) (refused : Bool) → Took before now bytes → length bytes ≤ most_log_bytes → now.faults ≡ before.faults → IsAtEnd now.left → Wrote s t (output start bytes) → refused ≡ list_any is_refusal (log_said start bytes) → AnswersLog start before now s t (status_of (Ok refused))
answers_end start before now s t bytes false took short faultless at_end wrote told =
    record {
      bytes = bytes;
      took = took;
      told = (wrote, sym told);
      log = of_all (λ log. Told start.form (log_said start log) s t Done) before.left bytes (all_taken before.left now.left bytes took.left at_end) (wrote, sym told);
      at_end = λ done. at_end;
      short = short;
      faultless = faultless;
    }
answers_end start before now s t bytes true took short faultless at_end wrote told =
    record {
      bytes = bytes;
      took = took;
      told = (wrote, sym told);
      log = of_all (λ log. Told start.form (log_said start log) s t DoneWithRefusals) before.left bytes (all_taken before.left now.left bytes took.left at_end) (wrote, sym told);
      at_end = λ done. at_end;
      short = short;
      faultless = faultless;
    }

-- all was read
answers_finished : (start : Start) (before now : SourceSeen) (s t : SinkSeen) (after : Voice) (given : List Given) (refused : Bool) → Finishes most_log_bytes start.document before now given → SaysAll (Writes start.form) after s t (run start.world given).said (Ok refused) → AnswersLog start before now s t (status_of (Ok refused))
answers_finished start before now s t after given refused ended says =
    let told = rw ended.blocks at says in
    answers_end start before now s t ended.bytes refused ended.took ended.short ended.faultless ended.at_end
    (wrote_of start.form after s t _ told.0)
    told.1

whole_wrote : (start : Start) (s t : SinkSeen) (after : Voice) (given : List Given) (bytes : List ℕ) → given ≡ map a_block (whole_blocks start.document bytes) → SaysAll (Writes start.form) after s t (run start.world given).said (Err (halt.Cut cut.Memory)) → Wrote s t (whole_text start bytes)
whole_wrote start s t after given bytes is says =
    wrote_of start.form after s t _ (rw is at says)

answers_stopped : (start : Start) (before now : SourceSeen) (s t : SinkSeen) (after : Voice) (given : List Given) (at_end : Bool) (taken : ℕ) (reader : Reader) (why : Stop) → reader.document ≡ start.document → LogGave at_end most_log_bytes taken reader before now given → SaysAll (Writes start.form) after s t (run start.world given).said (Err (halt.Stop why)) → AnswersLog start before now s t (status_of (Err why))
answers_stopped start before now s t after given true taken reader why document gave says =
    let same : given ≡ map a_block (blocks start.document gave.bytes) = subst (λ d. given ≡ map a_block (blocks d gave.bytes)) document gave.blocks in
    let stops : Says start.form s t (log_said start gave.bytes) (Err why) = subst (λ g. Says start.form s t (run start.world g).said (Err why)) same (stops_of start.form after s t _ why says) in
    answers_stop start before now s t gave.bytes why gave.took gave.short gave.faultless stops
    (of_all (λ log. Says start.form s t (log_said start log) (Err why)) before.left gave.bytes (all_taken before.left now.left gave.bytes gave.took.left gave.at_end) stops)
answers_stopped start before now s t after given false taken reader why document gave says =
    let same : given ≡ map a_block (whole_blocks start.document gave.bytes) = subst (λ d. given ≡ map a_block (whole_blocks d gave.bytes)) document gave.blocks in
    let whole : Says start.form s t (whole_said start gave.bytes) (Err why) = subst (λ g. Says start.form s t (run start.world g).said (Err why)) same (stops_of start.form after s t _ why says) in
    let law : Begins start.document = subst (λ d. Begins d) document gave.begins in
    let count = gave.count in
    let stops : (more : List ℕ) → Says start.form s t (log_said start (gave.bytes ++ more)) (Err why) = λ more. log_stops start law s t gave.bytes more why whole in
    answers_stop start before now s t gave.bytes why gave.took (rw (← count) gave.short) gave.faultless
    (subst (λ bs. Says start.form s t (log_said start bs) (Err why)) (append-nil gave.bytes) (stops []))
    (of_log (λ log. Says start.form s t (log_said start log) (Err why)) before.left now.left gave.bytes gave.took.left stops)

answers_cut : (start : Start) (before now : SourceSeen) (s t : SinkSeen) (after : Voice) (given : List Given) (why : Cut) → LogEnded most_log_bytes start.document before now given (Some why) → SaysAll (Writes start.form) after s t (run start.world given).said (Err (halt.Cut why)) → AnswersLog start before now s t (status_of_drive (Err (halt.Cut why)))
answers_cut start before now s t after given cut.Failed ended says =
    let wrote = whole_wrote start s t after given ended.bytes ended.blocks says in
    record {
      bytes = ended.bytes;
      took = ended.took;
      written = wrote;
      log = of_log (λ log. WrotePart s t (output start log)) before.left now.left ended.bytes ended.took.left (λ more. log_begins start ended.begins s t ended.bytes more wrote);
      short = ended.short;
      rose = ended.rose;
      unsure = ended.unsure;
    }
answers_cut start before now s t after given cut.TooLong ended says =
    let wrote = whole_wrote start s t after given ended.bytes ended.blocks says in
    record {
      bytes = ended.bytes;
      last = ended.last;
      took = ended.took;
      written = wrote;
      log = of_log (λ log. WrotePart s t (output start log)) before.left now.left (ended.bytes ++ ended.last) ended.took.left (λ more. rw (append_assoc ended.bytes ended.last more) (log_begins start ended.begins s t ended.bytes (ended.last ++ more) wrote));
      whole = ended.whole;
      more = ended.more;
      faultless = ended.faultless;
    }
answers_cut start before now s t after given cut.Memory ended says =
    let wrote = whole_wrote start s t after given ended.bytes ended.blocks says in
    answers_stop start before now s t (ended.bytes ++ ended.last) Memory ended.took ended.short ended.faultless
    (log_front start ended.begins s t ended.bytes ended.last wrote)
    (of_log (λ log. WroteFront start.form (log_said start log) s t) before.left now.left (ended.bytes ++ ended.last) ended.took.left (λ more. rw (append_assoc ended.bytes ended.last more) (log_front start ended.begins s t ended.bytes (ended.last ++ more) wrote)))

same_first : (a b c d : ℕ) → a ∷ b ∷ [] ≡ c ∷ d ∷ [] → a ≡ c
same_first a b c d is = ap (λ (xs : List ℕ). get_or xs 0 0) is

pub document_still : (a b c d : ℕ) → a ∷ b ∷ [] ≡ c ∷ d ∷ [] → b ≡ d
document_still a b c d is = ap (λ (xs : List ℕ). get_or xs 1 0) is

-- the log was driven from its start
log_driven : (start : Start) (before now : SourceSeen) (s t : SinkSeen) (after : Voice) (at_end : Bool) (taken : ℕ) (reader : Reader) (given : List Given) (result : Result Bool Halt) → reader.document ≡ start.document → Came (LogGave at_end most_log_bytes taken reader before now) (LogEnded most_log_bytes reader.document before now) given result → SaysAll (Writes start.form) after s t (run start.world given).said result → AnswersLog start before now s t (status_of_drive result)
log_driven start before now s t after at_end taken reader given (Ok refused) document came says =
    answers_finished start before now s t after given refused (rw document at came) says
log_driven start before now s t after at_end taken reader given (Err (halt.Stop why)) document came says =
    answers_stopped start before now s t after given at_end taken reader why document came says
log_driven start before now s t after at_end taken reader given (Err (halt.Cut why)) document came says =
    answers_cut start before now s t after given why (subst (λ d. LogEnded most_log_bytes d before now given (Some why)) document came) says

pub log_answers : (start : Start) (before now : SourceSeen) (s t : SinkSeen) (after : Voice) (at_end : Bool) (most taken most_before document_before : ℕ) (reader : Reader) (l m : Option (List Given)) (engine engine' : State) (result : Result Bool Halt) (status : Status) → most ∷ reader.document ∷ [] ≡ most_before ∷ document_before ∷ [] → most_before ≡ most_log_bytes → document_before ≡ start.document → Stands engine start.world [] → Drove (LogGave at_end most taken reader before now) (LogEnded most reader.document before now) l m [] engine engine' (Writes start.form) after s t result → status ≡ status_of_drive result → AnswersLog start before now s t status
log_answers start before now s t after at_end most taken most_before document_before reader l m engine engine' result status same is_most is_document stands drove is =
    let same_most : most ≡ most_log_bytes = same_first _ _ _ _ same ∙ is_most in
    let document : reader.document ≡ start.document = document_still _ _ _ _ same ∙ is_document in
    let came = rw same_most at drove.came in
    rw is (log_driven start before now s t after at_end taken reader drove.given result document came (drove.said start.world stands))
