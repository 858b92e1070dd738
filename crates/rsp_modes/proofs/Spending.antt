-- The steps that reports, blocks and batches may take, one behind another.
use Rattle.std.proofs.Common.{◌≡◌, ℕ, ◌+◌, ◌≤◌, Bool, true, false, Option, Some, None, Result, Ok, Err, List, [], ◌∷◌, ◌++◌, map, length, refl, sym, ◌∙◌, ap, subst, append_assoc, arith}
use Rattle.std.proofs.lemmas.List.{append-nil, map-append}
use Rattle.std.specs.Io.KnownBytes.{IsAtEnd}
use Rattle.std.specs.Prelude.{OnOk}
use Rattle.rsp_io.specs.Seen.{SourceSeen}
use Rattle.rsp_events.specs.declared.event.Block.{Block}
use Rattle.rsp_events.specs.declared.event.Content.{Content}
use Rattle.rsp_events.specs.Blocks.{blocks, whole_blocks}
use Rattle.rsp_events.specs.Reader.{Reader}
use Rattle.rsp_engine.specs.declared.report.Report.{Report}
use Rattle.rsp_engine.specs.Moments.{Moment}
use Rattle.rsp_engine.specs.Offers.{GivesFirst}
use Rattle.rsp_engine.specs.Reports.{work_of_reports}
use Rattle.rsp_engine.specs.Stands.{State, Stands}
use Rattle.rsp_engine.specs.Steps.{next_work}
use Rattle.rsp_engine.specs.World.{World}
use Rattle.rsp_engine.proofs.ReportSteps.{work_next, work_part, work_step}
use Rattle.rsp_modes.specs.declared.feed.Batch.{Batch}
use Rattle.rsp_modes.specs.declared.feed.Cut.{Cut}
use Rattle.rsp_modes.specs.declared.feed.Cut.TheVariants as cut
use Rattle.rsp_modes.specs.declared.drive.Halt.{Halt}
use Rattle.rsp_modes.specs.declared.drive.Halt.TheVariants as halt
use Rattle.rsp_modes.specs.declared.refusals.Place.{Place}
use Rattle.rsp_modes.specs.declared.stop.Stop.{Stop}
use Rattle.rsp_modes.specs.Costs.{CostsLog, work_of}
use Rattle.rsp_modes.specs.Feeds.{Came, Spends, Takes, given_in}
use Rattle.rsp_modes.specs.Logs.{Begins, LogEnded, LogGave}
use Rattle.rsp_modes.specs.Output.{Given, Step, a_block, content_step, run, step}
use Rattle.rsp_modes.specs.Sources.{Took}
use Rattle.rsp_modes.proofs.Driving.{takes_more, takes_nothing}
use Rattle.rsp_modes.proofs.Folding.{run-append}
use Rattle.rsp_modes.proofs.Logging.{all_taken, of_all, of_log}
use Rattle.rsp_modes.proofs.Reporting.{Taken}

-- ---- reports

-- some are worked off, and what they took with what those that are left may take is within what all may
pub record Spent (world : World) (left : List Moment) (engine : State) (before after : ℕ) : Type 0 where
  pub here : World
  pub rest : List Moment
  pub stands : Stands engine here rest
  pub within : after + work_of_reports here rest ≤ before + work_of_reports world left

abbrev pub Spending : State → State → ℕ → ℕ → Type 0
Spending old engine before after = (world : World) (left : List Moment) → Stands old world left → Spent world left engine before after

-- a call for the next report takes what that may
abbrev pub CostsNext : State → ℕ → ℕ → Type 0
CostsNext engine before after = (world : World) (left : List Moment) → Stands engine world left → after ≤ before + next_work world left

pub spending_nothing : (engine : State) (steps : ℕ) → Spending engine engine steps steps
spending_nothing engine steps world left stands = record { here = world; rest = left; stands = stands; within = omega arith }

pub spending_more : (old engine engine' : State) (a b c : ℕ) (report : Report) → Spending old engine a b → GivesFirst engine report engine' → CostsNext engine b c → Spending old engine' a c
spending_more old engine engine' a b c report spending gives cost world left stands =
    let so_far = spending world left stands in
    let first = gives.gives so_far.here so_far.rest so_far.stands in
    let took = cost so_far.here so_far.rest so_far.stands in
    let next = work_next so_far.here so_far.rest first.step first.is_next in
    let all = work_step so_far.here so_far.rest first.step first.is_next in
    let within = so_far.within in
    record { here = first.step.after; rest = first.step.left; stands = first.stands; within = omega (arith, took, next, all, within) }

-- whatever comes of that call
pub spent_next : (old engine : State) (a b c : ℕ) → Spending old engine a b → CostsNext engine b c → (world : World) (left : List Moment) → Stands old world left → c ≤ a + work_of_reports world left
spent_next old engine a b c spending cost world left stands =
    let so_far = spending world left stands in
    let took = cost so_far.here so_far.rest so_far.stands in
    let part = work_part so_far.here so_far.rest in
    let within = so_far.within in
    omega (arith, took, part, within)

-- ---- a block

pub taken_costs : (world : World) (place : Place) (content : Content) (new : State) (is : Taken world place content new) (a b : ℕ) → b ≤ a + work_of_reports is.after is.left → b ≤ a + (content_step world place content).work
taken_costs world place content new is a b cost = rw is.says cost

pub costs_nothing : (steps work : ℕ) → steps ≤ steps + work
costs_nothing steps work = omega arith

-- ---- some of a list

pub record GivenSpent (world : World) (all rest : List Given) (engine : State) (before after : ℕ) : Type 0 where
  pub here : World
  pub stands : Stands engine here []
  pub within : after + (run here rest).work ≤ before + (run world all).work

abbrev pub GivenSpending : State → State → List Given → List Given → ℕ → ℕ → Type 0
GivenSpending old engine all rest before after = (world : World) → Stands old world [] → GivenSpent world all rest engine before after

pub given_nothing : (engine : State) (all rest : List Block) (steps : ℕ) → rest ≡ all → GivenSpending engine engine (map a_block all) (map a_block rest) steps steps
given_nothing engine all rest steps is world stands =
    let same : (run world (map a_block rest)).work ≡ (run world (map a_block all)).work = ap (λ bs. (run world (map a_block bs)).work) is in
    record { here = world; stands = stands; within = omega (arith, same) }

pub given_more : (old engine engine' : State) (all rest more : List Block) (x : Block) (a b c : ℕ) → GivenSpending old engine (map a_block all) (map a_block rest) a b → rest ≡ x ∷ more → ((w : World) → Stands engine w [] → c ≤ b + (step w (a_block x)).work) → ((w : World) → Stands engine w [] → Stands engine' (step w (a_block x)).after []) → GivenSpending old engine' (map a_block all) (map a_block more) a c
given_more old engine engine' all rest more x a b c spending is cost stands world at =
    let so_far = spending world at in
    let here = so_far.here in
    let took = cost here so_far.stands in
    let rest_is : (run here (map a_block rest)).work ≡ (step here (a_block x)).work + (run (step here (a_block x)).after (map a_block more)).work = ap (λ bs. (run here (map a_block bs)).work) is in
    let within = so_far.within in
    record { here = (step here (a_block x)).after; stands = stands here so_far.stands; within = omega (arith, took, rest_is, within) }

pub given_stops : (old engine : State) (all rest more : List Block) (x : Block) (a b c : ℕ) → GivenSpending old engine (map a_block all) (map a_block rest) a b → rest ≡ x ∷ more → ((w : World) → Stands engine w [] → c ≤ b + (step w (a_block x)).work) → (world : World) → Stands old world [] → c ≤ a + (run world (map a_block all)).work
given_stops old engine all rest more x a b c spending is cost world at =
    let so_far = spending world at in
    let here = so_far.here in
    let took = cost here so_far.stands in
    let rest_is : (run here (map a_block rest)).work ≡ (step here (a_block x)).work + (run (step here (a_block x)).after (map a_block more)).work = ap (λ bs. (run here (map a_block bs)).work) is in
    let within = so_far.within in
    omega (arith, took, rest_is, within)

pub given_all : (old engine : State) (all rest : List Block) (a b : ℕ) → GivenSpending old engine (map a_block all) (map a_block rest) a b → (world : World) → Stands old world [] → b ≤ a + (run world (map a_block all)).work
given_all old engine all rest a b spending world at = let within = (spending world at).within in omega (arith, within)

-- ---- batches

-- what was taken where nothing more is given
taken_so : (a b c : Option (List Given)) (xs : List Given) → Takes a b xs → Takes b c [] → Takes a c xs
taken_so a b c xs first second = rw (append-nil xs) at (takes_more a b c xs [] first second)

pub record DrivenSpending (Gave Gave' : SourceSeen → List Given → Type 0) (left left' : Option (List Given)) (engine engine' : State) (before after : ℕ) : Type 0 where
  pub given : List Given
  pub came : (start : SourceSeen) (old : List Given) → Gave start old → Gave' start (old ++ given)
  pub taken : Takes left left' given
  pub within : (world : World) → Stands engine world [] → after ≤ before + (run world given).work
  pub stands : (world : World) → Stands engine world [] → Stands engine' (run world given).after []

pub driven_free : (Gave : SourceSeen → List Given → Type 0) (left : Option (List Given)) (engine : State) (steps : ℕ) → DrivenSpending Gave Gave left left engine engine steps steps
driven_free Gave left engine steps =
    record {
      given = [];
      came = λ start old gave. rw (append-nil old) gave;
      taken = takes_nothing left;
      within = λ world at. omega arith;
      stands = λ world at. at;
    }

pub within_both : (world : World) (xs ys : List Given) (a b c : ℕ) → b ≤ a + (run world xs).work → c ≤ b + (run (run world xs).after ys).work → c ≤ a + (run world (xs ++ ys)).work
within_both world xs ys a b c first second =
    let sum : (run world (xs ++ ys)).work ≡ (run world xs).work + (run (run world xs).after ys).work = ap (λ (s : Step). s.work) (run-append world xs ys) in
    omega (arith, first, second, sum)

pub driven_further : (Gave Mid Gave' : SourceSeen → List Given → Type 0) (l m n : Option (List Given)) (old engine engine' : State) (a b c : ℕ) (batch : Batch) → DrivenSpending Gave Mid l m old engine a b → ((start : SourceSeen) (given : List Given) → Mid start given → Gave' start (given ++ given_in batch)) → Takes m n (given_in batch) → ((w : World) → Stands engine w [] → c ≤ b + (run w (given_in batch)).work) → ((w : World) → Stands engine w [] → Stands engine' (run w (given_in batch)).after []) → DrivenSpending Gave Gave' l n old engine' a c
driven_further Gave Mid Gave' l m n old engine engine' a b c batch driven came taken cost stands =
    let more = given_in batch in
    record {
      given = driven.given ++ more;
      came = λ start before gave. rw (← append_assoc before driven.given more) (came start (before ++ driven.given) (driven.came start before gave));
      taken = takes_more l m n driven.given more driven.taken taken;
      within = λ world at. within_both world driven.given more a b c (driven.within world at) (cost (run world driven.given).after (driven.stands world at));
      stands =
          λ world at.
          rw (ap (λ (s : Step). s.after) (run-append world driven.given more))
          (stands (run world driven.given).after (driven.stands world at));
    }

pub spends_all : (Gave Mid Gave' : SourceSeen → List Given → Type 0) (Ended : SourceSeen → List Given → Option Cut → Type 0) (l m n : Option (List Given)) (old engine : State) (a b : ℕ) (refused : Bool) (start : SourceSeen) (before : List Given) → DrivenSpending Gave Mid l m old engine a b → ((start : SourceSeen) (given : List Given) → Mid start given → Ended start given None) → Takes m n [] → Gave start before → Spends (Gave' start) (Ended start) l n before old a b (Ok refused)
spends_all Gave Mid Gave' Ended l m n old engine a b refused start before driven ended taken gave =
    record {
      given = driven.given;
      came = ended start (before ++ driven.given) (driven.came start before gave);
      taken = taken_so l m n driven.given driven.taken taken;
      within = driven.within;
    }

pub spends_cut : (Gave Mid Gave' : SourceSeen → List Given → Type 0) (Ended : SourceSeen → List Given → Option Cut → Type 0) (l m n : Option (List Given)) (old engine : State) (a b : ℕ) (why : Cut) (start : SourceSeen) (before : List Given) → DrivenSpending Gave Mid l m old engine a b → ((start : SourceSeen) (given : List Given) → Mid start given → Ended start given (Some why)) → Takes m n [] → Gave start before → Spends (Gave' start) (Ended start) l n before old a b (Err (halt.Cut why))
spends_cut Gave Mid Gave' Ended l m n old engine a b why start before driven ended taken gave =
    record {
      given = driven.given;
      came = ended start (before ++ driven.given) (driven.came start before gave);
      taken = taken_so l m n driven.given driven.taken taken;
      within = driven.within;
    }

pub spends_stopped : (Gave Mid Gave' : SourceSeen → List Given → Type 0) (Ended : SourceSeen → List Given → Option Cut → Type 0) (l m n : Option (List Given)) (old engine : State) (a b c : ℕ) (why : Stop) (batch : Batch) (start : SourceSeen) (before : List Given) → DrivenSpending Gave Mid l m old engine a b → ((start : SourceSeen) (given : List Given) → Mid start given → Gave' start (given ++ given_in batch)) → Takes m n (given_in batch) → ((w : World) → Stands engine w [] → c ≤ b + (run w (given_in batch)).work) → Gave start before → Spends (Gave' start) (Ended start) l n before old a c (Err (halt.Stop why))
spends_stopped Gave Mid Gave' Ended l m n old engine a b c why batch start before driven came taken cost gave =
    let more = given_in batch in
    record {
      given = driven.given ++ more;
      came = rw (← append_assoc before driven.given more) (came start (before ++ driven.given) (driven.came start before gave));
      taken = takes_more l m n driven.given more driven.taken taken;
      within = λ world at. within_both world driven.given more a b c (driven.within world at) (cost (run world driven.given).after (driven.stands world at));
    }

-- ---- all that is left

-- what is given is the front of what there was to give
front_within : (world : World) (all given : List Given) (rest : Option (List Given)) (a b : ℕ) → Takes (Some all) rest given → b ≤ a + (run world given).work → b ≤ a + (run world all).work
front_within world all given None a b taken within = absurd taken
front_within world all given (Some rest) a b taken within =
    let same : (run world all).work ≡ (run world given).work + (run (run world given).after rest).work =
    ap (λ xs. (run world xs).work) taken ∙ ap (λ (s : Step). s.work) (run-append world given rest) in
    omega (arith, same, within)

pub all_spent : (Gave : List Given → Type 0) (Ended : List Given → Option Cut → Type 0) (all : List Given) (rest : Option (List Given)) (before : List Given) (engine : State) (a b : ℕ) (result : Result Bool Halt) (world : World) → Spends Gave Ended (Some all) rest before engine a b result → Stands engine world [] → b ≤ a + (run world all).work
all_spent Gave Ended all rest before engine a b result world spends at = front_within world all spends.given rest a b spends.taken (spends.within world at)

-- ---- a log

whole_within : (document : ℕ) (bytes more : List ℕ) → Begins document → (world : World) → (run world (map a_block (whole_blocks document bytes))).work ≤ (run world (map a_block (blocks document (bytes ++ more)))).work
whole_within document bytes more law world =
    let rest = law bytes more in
    let whole = map a_block (whole_blocks document bytes) in
    let is : (run world (map a_block (blocks document (bytes ++ more)))).work ≡ (run world whole).work + (run (run world whole).after (map a_block rest.0)).work =
    ap (λ bs. (run world (map a_block bs)).work) rest.1
    ∙ (ap (λ g. (run world g).work) (map-append a_block (whole_blocks document bytes) rest.0)
    ∙ ap (λ (s : Step). s.work) (run-append world whole (map a_block rest.0))) in
    omega (arith, is)

-- however the log goes on behind the blocks that have ended
whole_costs : (world : World) (document : ℕ) (bytes : List ℕ) (given : List Given) (a b : ℕ) → Begins document → given ≡ map a_block (whole_blocks document bytes) → b ≤ a + (run world given).work → (more : List ℕ) → b ≤ a + work_of world (map a_block (blocks document (bytes ++ more)))
whole_costs world document bytes given a b law is within more =
    let low = whole_within document bytes more law world in
    let same : (run world given).work ≡ (run world (map a_block (whole_blocks document bytes))).work = ap (λ g. (run world g).work) is in
    omega (arith, low, same, within)

-- by the blocks that have ended in the bytes that were taken, or by all
by_whole : (world : World) (document : ℕ) (before now : SourceSeen) (bytes more : List ℕ) (given : List Given) (a b : ℕ) → Took before now (bytes ++ more) → Begins document → given ≡ map a_block (whole_blocks document bytes) → b ≤ a + (run world given).work → CostsLog world document before now a b
by_whole world document before now bytes more given a b took law is within =
    let costs = whole_costs world document bytes given a b law is within in
    let Costs = λ (log : List ℕ). b ≤ a + work_of world (map a_block (blocks document log)) in
    record {
      bytes = bytes ++ more;
      took = took;
      within = costs more;
      log = of_log Costs before.left now.left (bytes ++ more) took.left (λ rest. subst Costs (sym (append_assoc bytes more rest)) (costs (more ++ rest)));
    }

by_read : (world : World) (document : ℕ) (before now : SourceSeen) (bytes : List ℕ) (given : List Given) (a b : ℕ) → Took before now bytes → Begins document → given ≡ map a_block (whole_blocks document bytes) → b ≤ a + (run world given).work → CostsLog world document before now a b
by_read world document before now bytes given a b took law is within =
    by_whole world document before now bytes [] given a b (subst (λ bs. Took before now bs) (sym (append-nil bytes)) took) law is within

by_all : (world : World) (document : ℕ) (before now : SourceSeen) (bytes : List ℕ) (given : List Given) (a b : ℕ) → Took before now bytes → IsAtEnd now.left → given ≡ map a_block (blocks document bytes) → b ≤ a + (run world given).work → CostsLog world document before now a b
by_all world document before now bytes given a b took at_end is within =
    let same : (run world given).work ≡ (run world (map a_block (blocks document bytes))).work = ap (λ g. (run world g).work) is in
    let all : b ≤ a + work_of world (map a_block (blocks document bytes)) = omega (arith, same, within) in
    record {
      bytes = bytes;
      took = took;
      within = all;
      log = of_all (λ log. b ≤ a + work_of world (map a_block (blocks document log))) before.left bytes (all_taken before.left now.left bytes took.left at_end) all;
    }

came_costs : (world : World) (before now : SourceSeen) (at_end : Bool) (most taken : ℕ) (reader : Reader) (given : List Given) (a b : ℕ) (result : Result Bool Halt) → Came (LogGave at_end most taken reader before now) (LogEnded most reader.document before now) given result → b ≤ a + (run world given).work → CostsLog world reader.document before now a b
came_costs world before now at_end most taken reader given a b (Ok refused) came within = by_all world reader.document before now came.bytes given a b came.took came.at_end came.blocks within
came_costs world before now false most taken reader given a b (Err (halt.Stop why)) came within = by_read world reader.document before now came.bytes given a b came.took (subst (λ d. Begins d) refl came.begins) came.blocks within
came_costs world before now true most taken reader given a b (Err (halt.Stop why)) came within = by_all world reader.document before now came.bytes given a b came.took came.at_end came.blocks within
came_costs world before now at_end most taken reader given a b (Err (halt.Cut cut.Failed)) came within = by_read world reader.document before now came.bytes given a b came.took came.begins came.blocks within
came_costs world before now at_end most taken reader given a b (Err (halt.Cut cut.TooLong)) came within = by_whole world reader.document before now came.bytes came.last given a b came.took came.begins came.blocks within
came_costs world before now at_end most taken reader given a b (Err (halt.Cut cut.Memory)) came within = by_whole world reader.document before now came.bytes came.last given a b came.took came.begins came.blocks within

pub log_costs : (world : World) (document : ℕ) (before now : SourceSeen) (at_end : Bool) (most taken : ℕ) (reader : Reader) (l m : Option (List Given)) (engine : State) (a b : ℕ) (result : Result Bool Halt) → reader.document ≡ document → Stands engine world [] → Spends (LogGave at_end most taken reader before now) (LogEnded most reader.document before now) l m [] engine a b result → CostsLog world document before now a b
log_costs world document before now at_end most taken reader l m engine a b result is stands spends =
    subst (λ d. CostsLog world d before now a b) is (came_costs world before now at_end most taken reader spends.given a b result spends.came (spends.within world stands))
