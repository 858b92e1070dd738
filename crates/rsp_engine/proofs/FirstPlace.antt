-- The first moment that is left, in the world for which an engine stands, and the steps that its report may take.
use Rattle.std.proofs.Common.{◌≡◌, ℕ, zero, suc, ◌+◌, ◌<◌, ◌≤◌, Bool, true, false, List, [], ◌∷◌, filter, length, map, remove, slice_get, slice_set, drop, Option, None, Some, refl, sym, ◌∙◌, ap, subst, arith}
use Rattle.std.specs.Prelude.{if◌then◌else◌, not, bytes_eq}
use Rattle.std.proofs.lemmas.List.{length-map, length-set}
use Rattle.std.proofs.lemmas.Option.{slice_get_within}
use Rattle.std.proofs.lemmas.Simd.{map-map}
use Rattle.std.specs.List.{IsDistinct}
use Rattle.rsp_multiset.specs.Rows.{Cells, row_eq}
use Rattle.rsp_terms.specs.declared.term.Term.{Term}
use Rattle.rsp_terms.specs.declared.statement.Fact.{Fact}
use Rattle.rsp_terms.specs.Same.{fact_eq, fact_same, term_eq}
use Rattle.rsp_multiset.specs.Weights.{IsSameMultiset, only, times}
use Rattle.rsp_multiset.proofs.SameLists.{same-append}
use Rattle.rsp_algebra.specs.Reading.{reads}
use Rattle.rsp_algebra.specs.Solutions.{eval}
use Rattle.rsp_algebra.specs.Meanings.{node_of}
use Rattle.rsp_algebra.specs.Work.{work}
use Rattle.rsp_algebra.proofs.FactsRead.{work-read}
use Rattle.rsp_algebra.proofs.SameWork.{same_work}
use Rattle.rsp_engine.specs.declared.schedule.Pending.{Pending}
use Rattle.rsp_engine.specs.declared.report.Outcome.{Outcome}
use Rattle.rsp_engine.specs.declared.report.Outcome.TheVariants as outcomes
use Rattle.rsp_engine.specs.declared.report.Report.{Report}
use Rattle.rsp_engine.specs.World.{Query, Reading, Registration, World, next_of, registrations}
use Rattle.rsp_engine.specs.Kept.{held, watches_of}
use Rattle.rsp_scope.specs.Needed.{listed_triples, needed_items}
use Rattle.rsp_scope.proofs.Takings.{times-filter}
use Rattle.std.specs.Option.{option_map_or}
use Rattle.rsp_spec.specs.Limits.{most_held}
use Rattle.rsp_engine.specs.Accept.{without}
use Rattle.rsp_engine.specs.Contents.{facts_over, watches}
use Rattle.rsp_engine.specs.Left.{IsFirstLeft, left_from}
use Rattle.rsp_engine.specs.Watching.{name_of}
use Rattle.rsp_engine.specs.Moments.{Moment}
use Rattle.rsp_engine.specs.Reports.{facts, live_query, work_of_report}
use Rattle.rsp_engine.specs.Steps.{next_work}
use Rattle.rsp_engine.specs.Stands.{Behind, Follows, HaveSeen, IsState, Live, Saw, Stands, State, asked_in, asked_of, is_read, left_in, next_in, places_left, registration_of, registrations_in, test_in}
use Rattle.rsp_engine.specs.Offers.{GivesOf}
use Rattle.rsp_engine.specs.Passing.{CostsReport, HasContents, facts_at}
use Rattle.rsp_engine.proofs.Left.{gone, waiting_head}
use Rattle.rsp_engine.proofs.Places.{nearer, nearer_gone}
use Rattle.rsp_engine.proofs.Named.{drop_named, find_named, get_map, remove_map, remove_named, set_map, set_named, set_same}
use Rattle.rsp_engine.proofs.Fitting.{contents_here}
use Rattle.rsp_engine.specs.Bounds.{IsWorld}
use Rattle.rsp_engine.proofs.Bounds.{alike_keeps, without_keeps}
use Rattle.rsp_engine.proofs.BehindReport.{All-get}
use Rattle.rsp_engine.proofs.Seen.{name_of_query, seen_at, seen_removed, seen_set, world_at, world_names}
use Rattle.rsp_engine.proofs.Standing.{head_is, left_here, left_renamed, none_is, waits_renamed}

module _ (old : State) (place : Pending) (live : Live) (first : old.first ≡ Some place) (listed : slice_get old.queries place.query ≡ Some live)
    (world : World) (left : List Moment) (state : IsState old) (stands : Stands old world left) where
  abbrev pub query : Registration
  query = registration_of live

  abbrev pub rest : List Moment
  rest = left_from name_of (test_in old) (asked_in old) (next_in old) place.at (place.query + 1)

  abbrev pub seen_now : List Fact
  seen_now = facts_at world.items old.stored live place.at

  pub found : (q : Query) × (slice_get world.queries place.query ≡ Some q) × (q.registration ≡ query)
  found = world_at old world stands.queries place.query live listed

  pub names : IsDistinct bytes_eq (map name_of_query world.queries)
  names = world_names old world stands.queries state.names

  pub called : name_of_query found.0 ≡ live.name
  called = ap (λ (r : Registration). r.name) found.2

  -- the moment is the first
  pub is_first : left ≡ record { at = place.at; query = live.name } ∷ rest
  is_first =
      let here = left_here old world left stands place first in
      let waits = state.waits place first in
      here ∙ waiting_head name_of (test_in old) (asked_in old) (next_in old) place (asked_of live) waits (get_map asked_of old.queries place.query live listed)

  -- what it needs of the world's items is kept, and it has seen what it saw there
  pub follows : Follows world.items old.stored old.log live
  follows = All-get (Follows world.items old.stored old.log) old.queries place.query live stands.fits.follows listed

  pub contents : HasContents world.items old.kept place.at (watches live.first live.windows)
  contents =
      contents_here old world.items stands.fits place.query live listed place.at
      (subst (λ one. option_map_or (λ (p : Pending). p.at) one (next_in old) ≤ place.at) (sym first) (omega arith))

  -- what it sees is what it sees in the world
  pub seen : IsSameMultiset fact_eq seen_now (facts world query place.at)
  seen =
      same-append fact_same old.stored world.stored (facts_over world.items live.first live.windows place.at) (facts_over world.items live.first live.windows place.at) stands.stored (λ q. refl)

  -- and what it saw is what the world's query saw
  pub saw : Saw live found.0
  saw = seen_at old.queries world.queries place.query live found.0 stands.seen listed found.1

  -- it is the live query of its name
  pub live_is : live_query world live.name ≡ Some found.0
  live_is = subst (λ n. live_query world n ≡ Some found.0) called (find_named world.queries name_of_query place.query found.0 names found.1)

  -- ---- the steps that its report may take

  -- what its tree reads of the facts of an instant, in the world
  read_now : IsSameMultiset fact_eq (filter (is_read live) seen_now) (filter (is_read live) (facts world query place.at))
  read_now q =
      times-filter fact_same (is_read live) seen_now q
      ∙ (ap (only (is_read live q)) (seen q) ∙ sym (times-filter fact_same (is_read live) (facts world query place.at) q))

  work_now : work live.query.width (node_of live.query.tree) live.seen (filter (is_read live) seen_now) ≡ work_of_report world found.0 place.at
  work_now =
      same_work live.query.width live.seen (filter (is_read live) seen_now) (filter (is_read live) found.0.seen) (filter (is_read live) (facts world query place.at))
      saw.1 read_now (node_of live.query.tree)
      ∙ (work-read live.query.width (reads (node_of live.query.tree)) (node_of live.query.tree) (λ fact is. is) found.0.seen (facts world query place.at)
      ∙ ap (λ (r : Registration). work r.reading.width r.reading.node found.0.seen (facts world r place.at)) (sym found.2))

  next_is : next_work world left ≡ work_of_report world found.0 place.at
  next_is = ap (next_work world) is_first ∙ rw live_is refl

  pub costs : (before after : ℕ) → CostsReport old.kept old.stored old.log place.at live before after → after ≤ before + next_work world left
  costs before after cost =
      let least = cost world.items follows contents in
      let same = work_now ∙ sym next_is in
      omega (arith, least, same)
