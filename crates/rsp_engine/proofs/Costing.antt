-- The steps that a report may take.
use Rattle.std.proofs.Common.{◌≡◌, ℕ, ◌+◌, ◌≤◌, Bool, List, [], Some, ℤ, slice_get, sym, subst}
use Rattle.std.specs.List.{All}
use Rattle.rsp_terms.specs.declared.statement.Fact.{Fact}
use Rattle.rsp_terms.specs.Same.{fact_eq}
use Rattle.rsp_multiset.specs.Weights.{IsChanged}
use Rattle.rsp_algebra.specs.Changing.{IsSet}
use Rattle.rsp_algebra.specs.Meanings.{node_of}
use Rattle.rsp_algebra.specs.Nodes.{Node}
use Rattle.rsp_algebra.specs.Work.{work}
use Rattle.rsp_scope.specs.Kept.{Kept}
use Rattle.rsp_scope.specs.Logged.{Log}
use Rattle.rsp_scope.specs.Moves.{Followed}
use Rattle.rsp_engine.specs.declared.live_query.LiveQuery.{LiveQuery}
use Rattle.rsp_engine.specs.declared.schedule.Pending.{Pending}
use Rattle.rsp_engine.specs.Contents.{watches}
use Rattle.rsp_engine.specs.Inside.{Answers, live_of}
use Rattle.rsp_engine.specs.Keeping.{watches_followed}
use Rattle.rsp_engine.specs.Moments.{Moment}
use Rattle.rsp_engine.specs.Passing.{CostsFirst, CostsReport, IsFollowed, facts_read_at}
use Rattle.rsp_engine.specs.Stands.{IsState, IsStore, Live, Stands, State, asked_of}
use Rattle.rsp_engine.specs.Steps.{next_work}
use Rattle.rsp_engine.specs.World.{World}
use Rattle.rsp_engine.proofs.FirstPlace.{costs}
use Rattle.rsp_engine.proofs.Following.{AllMoved, IsTold, allowed_change, change_leads}
use Rattle.rsp_engine.proofs.Seen.{mapped_at}
use Rattle.rsp_engine.proofs.StillSet.{still-set}

-- a change of its answer takes what leads to the facts that its tree reads at t
module _ {A : Type 0} (node : A → Node) (width : A → ℕ) (facts : A → List Fact) (spent : A → Bool) (live : LiveQuery A)
    (answers : Answers node width facts spent live) (kept : Kept) (stored : List Fact) (log : Log) (t : ℕ) (news : List Followed) (shift changes : List (Fact × ℤ))
    (watches_old : watches_followed live.contents.items ≡ watches live.first live.windows)
    (watches_new : watches_followed news ≡ watches_followed live.contents.items)
    (at : All (λ (seen : Followed). seen.at ≡ Some t) news)
    (told : IsTold stored log (live_of facts live) shift changes)
    (moved : AllMoved kept t live.contents.items news [] shift) where
  pub change_costs : IsStore stored → IsFollowed kept stored log t (live_of facts live) → (before after : ℕ)
      → ((now : List Fact) → IsSet now → IsChanged fact_eq (facts live.answer) changes now → after ≤ before + work (width live.answer) (node live.answer) (facts live.answer) now)
      → CostsReport kept stored log t (live_of facts live) before after
  change_costs store followed before after cost items follows has =
      let now = facts_read_at items stored (live_of facts live) t in
      let leads = change_leads kept stored log t (live_of facts live) news shift changes watches_old watches_new at told moved items follows has in
      let may = allowed_change kept stored log t (live_of facts live) news shift changes watches_old watches_new at told moved store answers.set followed in
      let set = still-set (facts live.answer) now changes answers.set may leads in
      subst (λ w. after ≤ before + work w (node_of live.query.value.tree) (facts live.answer) now) answers.width_is
      (subst (λ n. after ≤ before + work (width live.answer) n (facts live.answer) now) answers.node_is (cost now set leads))

-- the report at a place is that of its query
pub costs_first : (old : State) (place : Pending) (live : Live) (before after : ℕ) → slice_get old.queries place.query ≡ Some live
    → CostsReport old.kept old.stored old.log place.at live before after → CostsFirst old place before after
costs_first old place live before after listed cost other is =
    let same : live ≡ other = cc in
    subst (λ l. CostsReport old.kept old.stored old.log place.at l before after) same cost

-- and takes what the next step may
pub costs_next : (old : State) (place : Pending) (before after : ℕ) → IsState old → old.first ≡ Some place → CostsFirst old place before after
    → (world : World) (left : List Moment) → Stands old world left → after ≤ before + next_work world left
costs_next old place before after state first cost world left stands =
    let waits = state.waits place first in
    let found = mapped_at asked_of old.queries place.query waits.query waits.listed in
    costs old place found.0 first found.1 world left state stands before after (cost found.0 found.1)
