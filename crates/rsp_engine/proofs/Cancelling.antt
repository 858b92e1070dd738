-- An engine without one of its queries.
use Rattle.std.proofs.Common.{◌≡◌, ℕ, ◌+◌, ◌≤◌, ◌^◌, Bool, true, List, map, remove, None, refl, sym, ◌∙◌, ap, subst, arith}
use Rattle.std.specs.List.{All}
use Rattle.std.proofs.lemmas.List.Elements.{All-weaker}
use Rattle.rsp_spec.specs.Limits.{last_instant, most_slack}
use Rattle.rsp_terms.specs.declared.statement.Fact.{Fact}
use Rattle.rsp_algebra.specs.Nodes.{Node}
use Rattle.rsp_scope.specs.Contents.{Accepted, Numbered, Watch}
use Rattle.rsp_scope.specs.Ends.{IsKept}
use Rattle.rsp_scope.specs.Needed.{is_needed}
use Rattle.rsp_scope.specs.declared.item.Item.{Item}
use Rattle.rsp_engine.specs.declared.engine.Engine.TheInside.{Inside}
use Rattle.rsp_engine.specs.Inside.{IsReady, live_of, state_of}
use Rattle.rsp_engine.specs.Keeping.{watches_by}
use Rattle.rsp_engine.specs.Kept.{watches_of}
use Rattle.rsp_engine.specs.Stands.{Fits, Follows, IsLive, Live, State, cut_of, next_in, registration_of, registrations_in, watches_in}
use Rattle.rsp_engine.specs.Watching.{Tells}
use Rattle.rsp_engine.proofs.Named.{All-remove, remove_map}
use Rattle.rsp_engine.proofs.Needing.{less_needed}
use Rattle.rsp_engine.proofs.BehindReport.{all_watches, watches_same}

-- times of kept items are within the instants
pub timed_below : (items : List Item) (next slack : ℕ) → next ≤ last_instant + 1 → slack ≤ most_slack → All (λ (item : Item). item.time ≤ next + slack) items
    → All (λ (item : Item). item.time ≤ 2 ^ 48) items
timed_below items next slack high small timed =
    All-weaker (λ (item : Item). item.time ≤ next + slack) (λ (item : Item). item.time ≤ 2 ^ 48) (λ item early. omega (arith, early, high, small)) items timed

module _ {A : Type 0} (node : A → Node) (width : A → ℕ) (facts : A → List Fact) (spent : A → Bool) (e : Inside A) (ready : IsReady node width facts spent e) (idle : e.first ≡ None) (new : Inside A) (place : ℕ)
    (next : new.next ≡ e.next) (stored : new.stored ≡ e.stored) (log : new.log ≡ e.log) (first : new.first ≡ e.first) (queries : new.queries.items ≡ remove e.queries.items place)
    (kept : (before : ℕ) (all : List Watch) (items : List Accepted) → before ≤ next_in (state_of facts e)
    → ((n : ℕ) (entry : Numbered) → is_needed n (watches_by new.queries.items) entry ≡ true → is_needed n all entry ≡ true)
    → IsKept before all items e.streams → IsKept (next_in (state_of facts e)) (watches_by new.queries.items) items new.streams) where
  abbrev here : State
  here = state_of facts e

  abbrev there : State
  there = state_of facts new

  pub lives : there.queries ≡ remove here.queries place
  lives = ap (map (live_of facts)) queries ∙ remove_map (live_of facts) e.queries.items place

  cut_here : cut_of here ≡ next_in here
  cut_here = rw idle refl

  cut_there : cut_of there ≡ next_in here
  cut_there = rw (first, next, idle) refl

  by_contents : watches_by new.queries.items ≡ watches_in there
  by_contents =
      watches_same facts new.queries.items
      (all_watches there.queries (next_in here) e.slack e.streams.accepted (cut_of here) e.arrived (rw lives (All-remove (IsLive (next_in here) e.slack e.arrived e.streams.accepted (cut_of here)) here.queries place ready.state.lives)))

  regs : registrations_in there ≡ remove (registrations_in here) place
  regs = ap (map registration_of) lives ∙ remove_map registration_of here.queries place

  fewer : (n : ℕ) (entry : Numbered) → is_needed n (watches_by new.queries.items) entry ≡ true → is_needed n (watches_in here) entry ≡ true
  fewer n entry needed = less_needed (registrations_in here) place n entry (subst (λ ws. is_needed n ws entry ≡ true) (by_contents ∙ ap watches_of regs) needed)

  pub fits_without : (items : List Accepted) → Fits here items → Fits there items
  fits_without items fits = record {
    kept =
        let now = kept (next_in here) (watches_in here) items (omega arith) fewer (subst (λ c. IsKept c (watches_in here) items e.streams) cut_here fits.kept) in
        subst (λ ws. IsKept (cut_of there) ws items new.streams) by_contents (subst (λ c. IsKept c (watches_by new.queries.items) items new.streams) (sym cut_there) now);
    told = rw (lives, cut_there ∙ sym cut_here) (All-remove (λ (l : Live). Tells items (cut_of here) (registration_of l) l.watched) here.queries place fits.told);
    follows = rw (lives, stored, log) (All-remove (Follows items e.stored e.log) here.queries place fits.follows);
  }
