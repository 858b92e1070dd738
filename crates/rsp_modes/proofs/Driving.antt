-- Batches that are worked off, one behind another.
use Rattle.std.proofs.Common.{◌≡◌, ℕ, Bool, false, ◌||◌, IsTrue, Option, Some, None, Result, Ok, Err, List, [], ◌∷◌, ◌++◌, map, length, refl, sym, ◌∙◌, ap, append_assoc, arith}
use Rattle.std.proofs.lemmas.List.{append-nil}
use Rattle.std.specs.Prelude.{OnOk}
use Rattle.rsp_io.specs.Seen.{SinkSeen, SourceSeen}
use Rattle.rsp_events.specs.declared.event.Block.{Block}
use Rattle.rsp_events.specs.Instants.{AllTimed, IsTimed}
use Rattle.rsp_engine.specs.Stands.{State, Stands, is_idle}
use Rattle.rsp_engine.specs.World.{World}
use Rattle.rsp_modes.specs.declared.feed.Batch.{Batch}
use Rattle.rsp_modes.specs.declared.feed.Cut.{Cut}
use Rattle.rsp_modes.specs.declared.drive.Halt.{Halt}
use Rattle.rsp_modes.specs.declared.drive.Halt.TheVariants as halt
use Rattle.rsp_modes.specs.declared.stop.Stop.{Stop}
use Rattle.rsp_modes.specs.declared.voice.Voice.{Voice}
use Rattle.rsp_modes.specs.Feeds.{Drove, Takes, given_in, stop_of}
use Rattle.rsp_modes.specs.Output.{Given, Saying, Step, a_block, run, step}
use Rattle.rsp_modes.specs.Voices.{Says}
use Rattle.rsp_modes.proofs.Folding.{run-append}
use Rattle.rsp_modes.proofs.Voicing.{said_nothing, says_both, stops_before_more, stops_behind}

-- ---- what was taken of what is left

pub takes_nothing : (left : Option (List Given)) → Takes left left []
takes_nothing None = tt
takes_nothing (Some left) = refl

pub takes_more : (a b c : Option (List Given)) (xs ys : List Given) → Takes a b xs → Takes b c ys → Takes a c (xs ++ ys)
takes_more None b c xs ys first second = tt
takes_more (Some a) None c xs ys first second = absurd first
takes_more (Some a) (Some b) None xs ys first second = absurd second
takes_more (Some a) (Some b) (Some c) xs ys first second = first ∙ (ap (λ given. xs ++ given) second ∙ sym (append_assoc xs ys c))

takes_no_more : (a b c : Option (List Given)) (xs : List Given) → Takes a b xs → Takes b c [] → Takes a c xs
takes_no_more a b c xs first second = rw (append-nil xs) at (takes_more a b c xs [] first second)

-- ---- some of a list

-- some of it was worked off, from a world on
pub record Worked (world : World) (all rest : List Given) (engine : State) (voice voice' : Voice) (sink sink' : SinkSeen) (refused : Bool) : Type 0 where
  pub here : World
  pub done : List Saying
  pub stands : Stands engine here []
  pub said : (run world all).said ≡ done ++ (run here rest).said
  pub after : (run world all).after ≡ (run here rest).after
  pub says : Says voice voice' sink sink' done (Ok refused)

worked_nothing : (world : World) (all : List Given) (engine : State) (voice : Voice) (sink : SinkSeen) → Stands engine world [] → Worked world all all engine voice voice sink sink false
worked_nothing world all engine voice sink stands =
    record { here = world; done = []; stands = stands; said = refl; after = refl; says = (said_nothing voice sink, refl) }

worked_more : (world : World) (all rest more : List Given) (x : Given) (engine engine' : State) (a b c : Voice) (s t u : SinkSeen) (refused this : Bool) → Worked world all rest engine a b s t refused → rest ≡ x ∷ more → ((w : World) → Stands engine w [] → Says b c t u (step w x).said (Ok this)) → ((w : World) → Stands engine w [] → Stands engine' (step w x).after []) → Worked world all more engine' a c s u (refused || this)
worked_more world all rest more x engine engine' a b c s t u refused this worked is says stands =
    let here = worked.here in
    record {
      here = (step here x).after;
      done = worked.done ++ (step here x).said;
      stands = stands here worked.stands;
      said =
          worked.said
          ∙ (ap (λ given. worked.done ++ (run here given).said) is
          ∙ sym (append_assoc worked.done (step here x).said (run (step here x).after more).said));
      after = worked.after ∙ ap (λ given. (run here given).after) is;
      says = says_both a b c s t u worked.done (step here x).said refused this worked.says (says here worked.stands);
    }

worked_all : (world : World) (all rest : List Given) (engine : State) (a b : Voice) (s t : SinkSeen) (refused : Bool) → Worked world all rest engine a b s t refused → rest ≡ [] → Says a b s t (run world all).said (Ok refused) × Stands engine (run world all).after []
worked_all world all rest engine a b s t refused worked none =
    let said : (run world all).said ≡ worked.done = worked.said ∙ (ap (λ given. worked.done ++ (run worked.here given).said) none ∙ append-nil worked.done) in
    let after : (run world all).after ≡ worked.here = worked.after ∙ ap (λ given. (run worked.here given).after) none in
    (rw said worked.says, rw after worked.stands)

worked_stops : (world : World) (all rest more : List Given) (x : Given) (engine : State) (a b c : Voice) (s t u : SinkSeen) (refused : Bool) (why : Stop) → Worked world all rest engine a b s t refused → rest ≡ x ∷ more → ((w : World) → Stands engine w [] → Says b c t u (step w x).said (Err why)) → Says a c s u (run world all).said (Err why)
worked_stops world all rest more x engine a b c s t u refused why worked is stops =
    let said = worked.said ∙ ap (λ given. worked.done ++ (run worked.here given).said) is in
    rw said
    (stops_behind a b c s t u worked.done _ why worked.says.0
    (stops_before_more b c t u (step worked.here x).said _ why (stops worked.here worked.stands)))

-- ---- blocks

pub record Working (engine engine' : State) (all rest : List Block) (voice voice' : Voice) (sink sink' : SinkSeen) (refused : Bool) : Type 0 where
  pub idle : IsTrue (is_idle engine')
  pub timed : AllTimed rest
  pub worked : (world : World) → Stands engine world [] → Worked world (map a_block all) (map a_block rest) engine' voice voice' sink sink' refused

pub working_nothing : (engine : State) (all rest : List Block) (voice : Voice) (sink : SinkSeen) → rest ≡ all → IsTrue (is_idle engine) → AllTimed all → Working engine engine all rest voice voice sink sink false
working_nothing engine all rest voice sink is idle timed =
    record {
      idle = idle;
      timed = rw is timed;
      worked = λ world stands. rw is (worked_nothing world (map a_block all) engine voice sink stands);
    }

as_given : (rest more : List Block) (block : Block) → rest ≡ block ∷ more → map a_block rest ≡ a_block block ∷ map a_block more
as_given rest more block is = ap (map a_block) is

pub working_more : (before engine engine' : State) (all rest more : List Block) (block : Block) (a b c : Voice) (s t u : SinkSeen) (refused this : Bool) → Working before engine all rest a b s t refused → rest ≡ block ∷ more → IsTrue (is_idle engine') → ((w : World) → Stands engine w [] → Says b c t u (step w (a_block block)).said (Ok this)) → ((w : World) → Stands engine w [] → Stands engine' (step w (a_block block)).after []) → Working before engine' all more a c s u (refused || this)
working_more before engine engine' all rest more block a b c s t u refused this working is idle says stands =
    let timed : AllTimed (block ∷ more) = rw is at working.timed in
    record {
      idle = idle;
      timed = timed.1;
      worked =
          λ world at.
          worked_more world (map a_block all) (map a_block rest) (map a_block more) (a_block block) engine engine' a b c s t u refused this (working.worked world at) (as_given rest more block is) says stands;
    }

pub next_timed : (rest : List Block) (block : Block) (more : List Block) → AllTimed rest → rest ≡ block ∷ more → IsTimed block.content
next_timed rest block more timed is = let all : AllTimed (block ∷ more) = rw is at timed in all.0

pub working_all : (before engine : State) (all rest : List Block) (a b : Voice) (s t : SinkSeen) (refused : Bool) (world : World) → Working before engine all rest a b s t refused → rest ≡ [] → Stands before world [] → Says a b s t (run world (map a_block all)).said (Ok refused) × Stands engine (run world (map a_block all)).after []
working_all before engine all rest a b s t refused world working none stands =
    worked_all world (map a_block all) (map a_block rest) engine a b s t refused (working.worked world stands) (ap (map a_block) none)

pub working_stops : (before engine : State) (all rest more : List Block) (block : Block) (a b c : Voice) (s t u : SinkSeen) (refused : Bool) (why : Stop) (world : World) → Working before engine all rest a b s t refused → rest ≡ block ∷ more → ((w : World) → Stands engine w [] → Says b c t u (step w (a_block block)).said (Err why)) → Stands before world [] → Says a c s u (run world (map a_block all)).said (Err why)
working_stops before engine all rest more block a b c s t u refused why world working is stops stands =
    worked_stops world (map a_block all) (map a_block rest) (map a_block more) (a_block block) engine a b c s t u refused why (working.worked world stands) (as_given rest more block is) stops

-- a list of which no item is to come is empty
pub none_to_come : (items : List Block) (count : ℕ) → count ≡ length items → count ≡ 0 → items ≡ []
none_to_come [] count is none = refl
none_to_come (item ∷ items) count is none = absurd (omega (arith, is, none))

-- ---- batches

-- a feed has given some, and it was worked off
pub record Driven (Gave Gave' : SourceSeen → List Given → Type 0) (left left' : Option (List Given)) (engine engine' : State) (voice voice' : Voice) (sink sink' : SinkSeen) (refused : Bool) : Type 0 where
  pub given : List Given
  pub came : (start : SourceSeen) (before : List Given) → Gave start before → Gave' start (before ++ given)
  pub taken : Takes left left' given
  pub says : (world : World) → Stands engine world [] → Says voice voice' sink sink' (run world given).said (Ok refused)
  pub stands : (world : World) → Stands engine world [] → Stands engine' (run world given).after []

pub driven_nothing : (Gave : SourceSeen → List Given → Type 0) (left : Option (List Given)) (engine : State) (voice : Voice) (sink : SinkSeen) → Driven Gave Gave left left engine engine voice voice sink sink false
driven_nothing Gave left engine voice sink =
    record {
      given = [];
      came = λ start before gave. rw (append-nil before) gave;
      taken = takes_nothing left;
      says = λ world stands. (said_nothing voice sink, refl);
      stands = λ world stands. stands;
    }

pub driven_more : (Gave Mid Gave' : SourceSeen → List Given → Type 0) (l m n : Option (List Given)) (before engine engine' : State) (a b c : Voice) (s t u : SinkSeen) (refused this : Bool) (batch : Batch) → Driven Gave Mid l m before engine a b s t refused → ((start : SourceSeen) (given : List Given) → Mid start given → Gave' start (given ++ given_in batch)) → Takes m n (given_in batch) → ((w : World) → Stands engine w [] → Says b c t u (run w (given_in batch)).said (Ok this)) → ((w : World) → Stands engine w [] → Stands engine' (run w (given_in batch)).after []) → Driven Gave Gave' l n before engine' a c s u (refused || this)
driven_more Gave Mid Gave' l m n before engine engine' a b c s t u refused this batch driven came taken says stands =
    let more = given_in batch in
    record {
      given = driven.given ++ more;
      came = λ start old gave. rw (← append_assoc old driven.given more) (came start (old ++ driven.given) (driven.came start old gave));
      taken = takes_more l m n driven.given more driven.taken taken;
      says =
          λ world at.
          rw (ap (λ (s : Step). s.said) (run-append world driven.given more))
          (says_both a b c s t u _ _ refused this (driven.says world at) (says (run world driven.given).after (driven.stands world at)));
      stands =
          λ world at.
          rw (ap (λ (s : Step). s.after) (run-append world driven.given more))
          (stands (run world driven.given).after (driven.stands world at));
    }

pub driven_all : (Gave Mid Gave' : SourceSeen → List Given → Type 0) (Ended : SourceSeen → List Given → Option Cut → Type 0) (l m n : Option (List Given)) (before engine : State) (a b : Voice) (s t : SinkSeen) (refused : Bool) (start : SourceSeen) (old : List Given) → Driven Gave Mid l m before engine a b s t refused → ((start : SourceSeen) (given : List Given) → Mid start given → Ended start given None) → Takes m n [] → Gave start old → Drove (Gave' start) (Ended start) l n old before engine a b s t (Ok refused)
driven_all Gave Mid Gave' Ended l m n before engine a b s t refused start old driven ended taken gave =
    record {
      given = driven.given;
      came = ended start (old ++ driven.given) (driven.came start old gave);
      taken = takes_no_more l m n driven.given driven.taken taken;
      said = driven.says;
      stands = driven.stands;
    }

pub driven_cut : (Gave Mid Gave' : SourceSeen → List Given → Type 0) (Ended : SourceSeen → List Given → Option Cut → Type 0) (l m n : Option (List Given)) (before engine : State) (a b : Voice) (s t : SinkSeen) (refused : Bool) (why : Cut) (start : SourceSeen) (old : List Given) → Driven Gave Mid l m before engine a b s t refused → ((start : SourceSeen) (given : List Given) → Mid start given → Ended start given (Some why)) → Takes m n [] → Gave start old → Drove (Gave' start) (Ended start) l n old before engine a b s t (Err (halt.Cut why))
driven_cut Gave Mid Gave' Ended l m n before engine a b s t refused why start old driven ended taken gave =
    record {
      given = driven.given;
      came = ended start (old ++ driven.given) (driven.came start old gave);
      taken = takes_no_more l m n driven.given driven.taken taken;
      said = λ world stands. (driven.says world stands).0;
      stands = tt;
    }

pub driven_stops : (Gave Mid Gave' : SourceSeen → List Given → Type 0) (Ended : SourceSeen → List Given → Option Cut → Type 0) (l m n : Option (List Given)) (before engine engine' : State) (a b c : Voice) (s t u : SinkSeen) (refused : Bool) (why : Stop) (batch : Batch) (start : SourceSeen) (old : List Given) → Driven Gave Mid l m before engine a b s t refused → ((start : SourceSeen) (given : List Given) → Mid start given → Gave' start (given ++ given_in batch)) → Takes m n (given_in batch) → ((w : World) → Stands engine w [] → Says b c t u (run w (given_in batch)).said (Err why)) → Gave start old → Drove (Gave' start) (Ended start) l n old before engine' a c s u (Err (halt.Stop why))
driven_stops Gave Mid Gave' Ended l m n before engine engine' a b c s t u refused why batch start old driven came taken stops gave =
    let more = given_in batch in
    record {
      given = driven.given ++ more;
      came = rw (← append_assoc old driven.given more) (came start (old ++ driven.given) (driven.came start old gave));
      taken = takes_more l m n driven.given more driven.taken taken;
      said =
          λ world at.
          rw (ap (λ (s : Step). s.said) (run-append world driven.given more))
          (stops_behind a b c s t u _ _ why (driven.says world at).0 (stops (run world driven.given).after (driven.stands world at)));
      stands = tt;
    }

-- ---- all that is left

-- what begins a list says the front of what the list says
front_said : (world : World) (all given rest : List Given) → all ≡ given ++ rest → (run world all).said ≡ (run world given).said ++ (run (run world given).after rest).said
front_said world all given rest is = ap (λ xs. (run world xs).said) is ∙ ap (λ (s : Step). s.said) (run-append world given rest)

pub all_driven : (Gave : List Given → Type 0) (Ended : List Given → Option Cut → Type 0) (all rest before : List Given) (engine engine' : State) (a b : Voice) (s t : SinkSeen) (result : Result Bool Halt) (world : World) → Drove Gave Ended (Some all) (Some rest) before engine engine' a b s t result → OnOk result (rest ≡ []) → Stands engine world [] → Says a b s t (run world all).said (stop_of result)
all_driven Gave Ended all rest before engine engine' a b s t (Ok refused) world drove none stands =
    let same : all ≡ drove.given = drove.taken ∙ (ap (λ more. drove.given ++ more) none ∙ append-nil drove.given) in
    rw same (drove.said world stands)
all_driven Gave Ended all rest before engine engine' a b s t (Err (halt.Stop why)) world drove none stands =
    rw (front_said world all drove.given rest drove.taken) (stops_before_more a b s t _ _ why (drove.said world stands))
all_driven Gave Ended all rest before engine engine' a b s t (Err (halt.Cut why)) world drove none stands =
    record {
      front = (run world drove.given).said;
      rest = (run (run world drove.given).after rest).said;
      whole = front_said world all drove.given rest drove.taken;
      told = drove.said world stands;
    }
