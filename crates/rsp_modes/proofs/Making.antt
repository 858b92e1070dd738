-- The generator's events, one at a time; and the counts of what they say.
use Rattle.std.proofs.Common.{◌≡◌, ℕ, zero, suc, ◌+◌, ◌*◌, ◌<◌, ◌≤◌, Bool, Result, Ok, Err, Option, Some, None, List, [], ◌∷◌, ◌++◌, drop, map, refl, subst, sym, ◌∙◌, ap, append-nil, codes, arith}
use Rattle.std.specs.List.{range_with_len, slice_get}
use Rattle.std.specs.Prelude.{OnOk, count_by, sum_by}
use Rattle.rsp_spec.specs.Limits.{most_items}
use Rattle.rsp_events.specs.declared.event.Event as events
use Rattle.rsp_events.specs.declared.event.Event.TheVariants.{Register, Tick}
use Rattle.rsp_engine.specs.Stands.{State, Stands}
use Rattle.rsp_engine.specs.World.{empty_world}
use Rattle.rsp_io.specs.Seen.{SinkSeen}
use Rattle.rsp_modes.specs.declared.drive.Halt.{Halt}
use Rattle.rsp_modes.specs.declared.feed.Cut.{Cut}
use Rattle.rsp_modes.specs.declared.stop.Stop.{Stop}
use Rattle.rsp_modes.specs.declared.stop.Stop.TheVariants.{Memory, Write}
use Rattle.rsp_modes.specs.declared.voice.Tally.{Tally}
use Rattle.rsp_modes.specs.declared.voice.Voice.{Voice}
use Rattle.rsp_modes.specs.declared.voice.Voice.TheVariants as voices
use Rattle.rsp_words.specs.declared.form.Form.TheVariants.{Table}
use Rattle.rsp_modes.specs.Feeds.{Drove, stop_of}
use Rattle.rsp_modes.specs.Generator.{generated, item, item_of, next_random, query_text, random}
use Rattle.rsp_modes.specs.Output.{Given, Saying, a_block, a_summary, run}
use Rattle.rsp_modes.specs.Summaries.{event_block, is_report, numbered, rows_said, said_of, summary}
use Rattle.rsp_modes.specs.Summaries as summaries
use Rattle.rsp_modes.specs.Tallies.{IsMaking, gen_left}
use Rattle.rsp_modes.specs.Sayings as sayings
use Rattle.rsp_modes.specs.Voices.{Says}
use Rattle.rsp_modes.proofs.Driving.{all_driven}
use Rattle.rsp_modes.proofs.Writings.{wrote_nothing}

random_more : (given : ℕ) → random (given + 1) ≡ next_random (random given)
unfolding random
random_more given = let e : given + 1 ≡ suc given = omega arith in rw e refl

pub making_none : (count : ℕ) → count ≤ most_items → IsMaking count 0 1
unfolding random
making_none count few = record { few = few; within = omega arith; random = refl }

pub making_more : (count given x y : ℕ) → IsMaking count given x → given ≤ count + 1 → y ≡ next_random x → IsMaking count (given + 1) y
making_more count given x y making within is =
    record {
      few = making.few;
      within = omega (arith, within);
      random = is ∙ (ap next_random making.random ∙ sym (random_more given));
    }

-- ---- the event of a place

item_at : (from many k : ℕ) (ys : List events.Event) → k < many → slice_get (map item (range_with_len from many) ++ ys) k ≡ Some (item (from + k))
item_at from zero k ys below = absurd (omega (arith, below))
item_at from (suc many) zero ys below = let e : from ≡ from + 0 = omega arith in ap (λ n. Some (item n)) e
item_at from (suc many) (suc k) ys below =
    let e : from + 1 + k ≡ from + suc k = omega arith in
    item_at (from + 1) many k ys (omega (arith, below)) ∙ ap (λ n. Some (item n)) e

behind_items : (from many : ℕ) (y : events.Event) → slice_get (map item (range_with_len from many) ++ y ∷ []) many ≡ Some y
behind_items from zero y = refl
behind_items from (suc many) y = behind_items (from + 1) many y

past_items : (from many k : ℕ) (y : events.Event) → many < k → slice_get (map item (range_with_len from many) ++ y ∷ []) k ≡ None
past_items from zero zero y past = absurd (omega (arith, past))
past_items from zero (suc k) y past = refl
past_items from (suc many) zero y past = absurd (omega (arith, past))
past_items from (suc many) (suc k) y past = past_items (from + 1) many k y (omega (arith, past))

pub first_event : (count given : ℕ) (event : events.Event) → given ≡ 0 → event ≡ Register (codes "g") query_text → Some event ≡ slice_get (generated count) given
first_event count given event none is = rw (none, is) refl

pub item_event : (count given x : ℕ) (event : events.Event) → IsMaking count given x → (given ≡ 0 → ⊥) → given ≤ count → event ≡ item_of given x → Some event ≡ slice_get (generated count) given
item_event count zero x event making some within is = absurd (some refl)
item_event count (suc k) x event making some within is =
    let low : k < count = omega (arith, within) in
    let e : 1 + k ≡ suc k = omega arith in
    ap Some (is ∙ ap (item_of (suc k)) making.random) ∙ sym (item_at 1 count k (Tick (100 * count) ∷ []) low ∙ ap (λ n. Some (item n)) e)

pub last_event : (count given : ℕ) (event : events.Event) → given ≤ count + 1 → count < given → event ≡ Tick (100 * count) → Some event ≡ slice_get (generated count) given
last_event count given event within past is =
    let e : given ≡ suc count = omega (arith, within, past) in
    rw (e, is) (sym (behind_items 1 count (Tick (100 * count))))

pub no_event : (count given : ℕ) → count + 1 < given → None ≡ slice_get (generated count) given
no_event count zero past = absurd (omega (arith, past))
no_event count (suc k) past = sym (past_items 1 count k (Tick (100 * count)) (omega (arith, past)))

-- ---- what is left

left_more : (number k : ℕ) (es : List events.Event) (e : events.Event) → slice_get es k ≡ Some e → drop k (map a_block (numbered number es)) ≡ a_block (event_block (number + k, e)) ∷ drop (k + 1) (map a_block (numbered number es))
left_more number k [] e is = cc
left_more number zero (first ∷ es) e is =
    let same : first ≡ e = cc in
    let here : number ≡ number + 0 = omega arith in
    rw (← same, ← here) refl
left_more number (suc k) (first ∷ es) e is =
    let here : number + 1 + k ≡ number + suc k = omega arith in
    let past : suc k + 1 ≡ suc (k + 1) = omega arith in
    left_more (number + 1) k es e is
    ∙ (ap (λ n. a_block (event_block (n, e)) ∷ drop (k + 1) (map a_block (numbered (number + 1) es))) here
    ∙ ap (λ n. a_block (event_block (number + suc k, e)) ∷ drop n (map a_block (numbered number (first ∷ es)))) (sym past))

pub takes_event : (count given number : ℕ) (event : events.Event) → Some event ≡ slice_get (generated count) given → number ≡ given + 1 → gen_left count given ≡ a_block (event_block (number, event)) ∷ gen_left count (given + 1)
takes_event count given number event is same =
    let e : 1 + given ≡ number = omega (arith, same) in
    left_more 1 given (generated count) event (sym is) ∙ ap (λ n. a_block (event_block (n, event)) ∷ gen_left count (given + 1)) e

none_left : (number k : ℕ) (es : List events.Event) → slice_get es k ≡ None → drop k (map a_block (numbered number es)) ≡ []
none_left number zero [] is = refl
none_left number (suc k) [] is = refl
none_left number zero (first ∷ es) is = cc
none_left number (suc k) (first ∷ es) is = none_left (number + 1) k es is

pub nothing_left : (count given : ℕ) → None ≡ slice_get (generated count) given → gen_left count given ≡ []
nothing_left count given is = none_left 1 given (generated count) (sym is)

-- ---- the summary

pub summary_is : (count : ℕ) (tally now : Tally) (s t : SinkSeen) (refused : Bool) → tally ≡ record { reports = 0; rows = 0 } → Says (voices.Counts tally) (voices.Counts now) s t (run (empty_world 0) (map a_block (numbered 1 (generated count)))).said (Ok refused) → a_summary count now.reports now.rows ≡ summary count (said_of count)
unfolding said_of
summary_is count tally now s t refused none says =
    let counts = rw none at says.0.1 in
    let many = counts.reports in
    let rows = counts.rows in
    let said = (run (empty_world 0) (map a_block (numbered 1 (generated count)))).said in
    let reports' : now.reports ≡ count_by is_report said = omega (arith, many) in
    let rows' : now.rows ≡ sum_by rows_said said = omega (arith, rows) in
    (λ i. a_summary count (reports' i) (rows' i))

pub summary_ends : (count : ℕ) (tally now : Tally) (s t u : SinkSeen) (refused : Bool) (result : Result Bool Stop) → tally ≡ record { reports = 0; rows = 0 } → Says (voices.Counts tally) (voices.Counts now) s t (run (empty_world 0) (map a_block (numbered 1 (generated count)))).said (Ok refused) → sayings.Says Table t u (a_summary count now.reports now.rows ∷ []) result → sayings.Says Table s u (summaries.counted count []) result
summary_ends count tally now s t u refused result none says ends =
    rw (sym (summary_is count tally now s t refused none says), ← says.0.0) ends

pub summary_told : (count : ℕ) (tally now : Tally) (after : Voice) (s t u : SinkSeen) (refused : Bool) (counted : Result Bool Stop) (result : Result Bool Stop) → tally ≡ record { reports = 0; rows = 0 } → counted ≡ Ok refused → ((x : Tally) → after ≡ voices.Counts x → now ≡ x) → Says (voices.Counts tally) after s t (run (empty_world 0) (map a_block (numbered 1 (generated count)))).said counted → sayings.Says Table t u (a_summary count now.reports now.rows ∷ []) result → sayings.Says Table s u (summaries.counted count []) result
summary_told count tally now (voices.Writes form) s t u refused counted result none done is says ends =
    let told = subst (λ r. Says (voices.Counts tally) (voices.Writes form) s t (run (empty_world 0) (map a_block (numbered 1 (generated count)))).said r) done says in
    absurd told.0
summary_told count tally now (voices.Counts x) s t u refused counted result none done is says ends =
    let told = subst (λ r. Says (voices.Counts tally) (voices.Counts x) s t (run (empty_world 0) (map a_block (numbered 1 (generated count)))).said r) done says in
    let same : now ≡ x = is x refl in
    summary_ends count tally x s t u refused result none told (subst (λ (n : Tally). sayings.Says Table t u (a_summary count n.reports n.rows ∷ []) result) same ends)

-- where the counting stops, nothing is written
counting_stops : (tally : Tally) (after : Voice) (s t : SinkSeen) (said other : List Saying) (why : Stop) → Says (voices.Counts tally) after s t said (Err why) → sayings.Says Table s t other (Err why)
counting_stops tally (voices.Counts now) s t said other Memory says = record { front = []; rest = other; whole = refl; written = rw says.told.0 (wrote_nothing s) }
counting_stops tally (voices.Writes form) s t said other Memory says = absurd says.told
counting_stops tally after s t said other Write says = absurd says

pub no_summary : (tally : Tally) (after : Voice) (s t : SinkSeen) (said other : List Saying) (why : Stop) (counted : Result Bool Stop) → counted ≡ Err why → Says (voices.Counts tally) after s t said counted → sayings.Says Table s t other (Err why)
no_summary tally after s t said other why counted stopped says =
    counting_stops tally after s t said other why (subst (λ r. Says (voices.Counts tally) after s t said r) stopped says)

-- all that the generator says
pub gen_says : (Gave : List Given → Type 0) (Ended : List Given → Option Cut → Type 0) (count : ℕ) (left rest : List Given) (engine engine' : State) (a b : Voice) (s t : SinkSeen) (result : Result Bool Halt) → left ≡ map a_block (numbered 1 (generated count)) → Drove Gave Ended (Some left) (Some rest) [] engine engine' a b s t result → OnOk result (rest ≡ []) → Stands engine (empty_world 0) [] → Says a b s t (run (empty_world 0) (map a_block (numbered 1 (generated count)))).said (stop_of result)
gen_says Gave Ended count left rest engine engine' a b s t result is drove none stands =
    rw is at (all_driven Gave Ended left rest [] engine engine' a b s t result (empty_world 0) drove none stands)
