-- How accepted items go on to fit what an engine keeps.
use Rattle.std.proofs.Common.{◌≡◌, ℕ, zero, suc, true, false, pos, ◌+ℤ◌, ◌≤◌, List, [], ◌∷◌, ◌++◌, length, map, take, Some, slice_get, refl, sym, ◌∙◌, ap, subst, arith}
use Rattle.std.specs.List.{All, Contains}
use Rattle.std.proofs.lemmas.List.{length-take, take-append-le}
use Rattle.std.proofs.lemmas.List.Elements.{All-cons, All-contains_itself, All-weaker, Contains-append_left, Contains-append_right}
use Rattle.std.proofs.lemmas.Simd.{map-map}
use Rattle.rsp_terms.specs.declared.statement.Fact.{Fact}
use Rattle.rsp_terms.specs.Same.{fact_eq}
use Rattle.rsp_multiset.specs.Weights.{times}
use Rattle.rsp_scope.specs.Contents.{Accepted, Watch}
use Rattle.rsp_scope.specs.Ends.{HasContent, IsKept}
use Rattle.rsp_scope.specs.Kept.{Kept, needed}
use Rattle.rsp_scope.specs.Moves.{Followed, HasSeen}
use Rattle.rsp_scope.specs.Logged.{Log}
use Rattle.rsp_scope.proofs.Needed.{content_kept, passed}
use Rattle.rsp_engine.specs.Contents.{watches}
use Rattle.rsp_engine.specs.Kept.{watches_of}
use Rattle.rsp_engine.specs.Passing.{HasContents, unwatched}
use Rattle.rsp_engine.specs.Stands.{Fits, Follows, Live, State, cut_of, facts_followed, is_read, registration_of, unseen, watches_in}
use Rattle.rsp_engine.specs.Watching.{Tells}

-- ---- what a query's windows contain is kept

-- the windows of the query at a place are among those of all
among : (lives : List Live) (i : ℕ) (live : Live) → slice_get lives i ≡ Some live → (watch : Watch)
    → Contains (watches live.first live.windows) watch → Contains (watches_of (map registration_of lives)) watch
among [] i live listed watch has = absurd (cc)
among (l ∷ ls) zero live listed watch has =
    let same : l ≡ live = cc in
    Contains-append_left (watches l.first l.windows) (watches_of (map registration_of ls)) watch
    (subst (λ (x : Live). Contains (watches x.first x.windows) watch) (sym same) has)
among (l ∷ ls) (suc i) live listed watch has =
    Contains-append_right (watches l.first l.windows) (watches_of (map registration_of ls)) watch (among ls i live listed watch has)

pub contents_here : (e : State) (items : List Accepted) → Fits e items → (place : ℕ) (live : Live) → slice_get e.queries place ≡ Some live
    → (t : ℕ) → cut_of e ≤ t → HasContents items e.kept t (watches live.first live.windows)
contents_here e items fits place live listed t late =
    All-weaker (Contains (watches live.first live.windows)) (λ watch. HasContent watch t e.kept items)
    (λ watch has. content_kept (cut_of e) t (watches_in e) watch items e.kept fits.kept (among e.queries place live listed watch has) late)
    (watches live.first live.windows) (All-contains_itself (watches live.first live.windows))

-- ---- more items

module _ (items more : List Accepted) where
  within : (seen : Followed) → HasSeen seen (take seen.accepted items) → seen.accepted ≤ length items
  within seen has = let many = has.accepted in let short = length-take seen.accepted items in grind (arith, many, short)

  seen_more : (seen : Followed) → HasSeen seen (take seen.accepted items) → take seen.accepted (items ++ more) ≡ take seen.accepted items
  seen_more seen has = take-append-le seen.accepted items more (within seen has)

  facts_more : (contents : List Followed) → All (λ (seen : Followed). HasSeen seen (take seen.accepted items)) contents
      → facts_followed (items ++ more) contents ≡ facts_followed items contents
  facts_more [] all = refl
  facts_more (seen ∷ contents) all =
      rw (seen_more seen (all 0 seen (omega arith)), facts_more contents (λ k d below. all (suc k) d (omega (arith, below)))) refl

  pub follows_more : (stored : List Fact) (log : Log) (live : Live) → Follows items stored log live → Follows (items ++ more) stored log live
  follows_more stored log live follows = record {
    contents = All-weaker (λ (seen : Followed). HasSeen seen (take seen.accepted items)) (λ (seen : Followed). HasSeen seen (take seen.accepted (items ++ more)))
        (λ seen has. subst (HasSeen seen) (sym (seen_more seen has)) has) live.contents follows.contents;
    seen = λ q is. rw (facts_more live.contents follows.contents) (follows.seen q is);
    unread = follows.unread;
  }

-- what a query watches makes no difference
pub follows_alike : (items : List Accepted) (stored : List Fact) (log : Log) (one other : Live) → unwatched one ≡ unwatched other
    → Follows items stored log one → Follows items stored log other
follows_alike items stored log one other is follows = record {
  contents = subst (λ (l : Live). All (λ (seen : Followed). HasSeen seen (take seen.accepted items)) l.contents) is follows.contents;
  seen = λ q.
      subst (λ (l : Live). is_read l q ≡ true → times fact_eq l.seen q +ℤ unseen stored log l q ≡ times fact_eq stored q +ℤ times fact_eq (facts_followed items l.contents) q) is (follows.seen q);
  unread = λ q. subst (λ (l : Live). is_read l q ≡ false → times fact_eq l.seen q ≡ pos 0) is (follows.unread q);
}

all_follow : (items : List Accepted) (stored : List Fact) (log : Log) (olds news : List Live) → map unwatched olds ≡ map unwatched news
    → All (Follows items stored log) olds → All (Follows items stored log) news
all_follow items stored log olds [] is all = λ k d below. absurd (omega (arith, below))
all_follow items stored log [] (new ∷ news) is all = cc
all_follow items stored log (old ∷ olds) (new ∷ news) is all =
    let first : unwatched old ≡ unwatched new = cc in
    let rest : map unwatched olds ≡ map unwatched news = cc in
    All-cons (Follows items stored log) new news (follows_alike items stored log old new first (all 0 old (omega arith)))
    (all_follow items stored log olds news rest (λ k d below. all (suc k) d (omega (arith, below))))

-- ---- time passes

pub same_regs : (olds news : List Live) → map unwatched news ≡ map unwatched olds → map registration_of news ≡ map registration_of olds
same_regs olds news is = sym (map-map registration_of unwatched news) ∙ (ap (map registration_of) is ∙ map-map registration_of unwatched olds)

pub told_later : (items : List Accepted) (from to : ℕ) (lives : List Live) → from ≤ to
    → All (λ (live : Live). Tells items from (registration_of live) live.watched) lives → All (λ (live : Live). Tells items to (registration_of live) live.watched) lives
told_later items from to lives low all =
    All-weaker (λ (live : Live). Tells items from (registration_of live) live.watched) (λ (live : Live). Tells items to (registration_of live) live.watched)
    (λ live tells. record { windows = tells.windows; told = λ asks t late. tells.told asks t (omega (arith, low, late)) }) lives all

-- the items with those that came fit an engine that keeps what it needs of them, from its new cut on
pub fits_passed : (old new : State) (items more : List Accepted) (taken : Kept) → cut_of old ≤ cut_of new → map unwatched new.queries ≡ map unwatched old.queries
    → new.stored ≡ old.stored → new.log ≡ old.log → new.kept ≡ record taken { items = needed (cut_of new) taken.items }
    → IsKept (cut_of old) (watches_in old) (items ++ more) taken
    → All (λ (live : Live). Tells (items ++ more) (cut_of old) (registration_of live) live.watched) new.queries
    → All (Follows items old.stored old.log) old.queries → Fits new (items ++ more)
fits_passed old new items more taken low same stored log kept is_kept told follows = record {
  kept = subst (λ k. IsKept (cut_of new) (watches_in new) (items ++ more) k) (sym kept)
      (subst (λ rs. IsKept (cut_of new) (watches_of rs) (items ++ more) (record taken { items = needed (cut_of new) taken.items })) (sym (same_regs old.queries new.queries same))
      (passed (cut_of old) (cut_of new) (watches_in old) (items ++ more) taken is_kept low));
  told = told_later (items ++ more) (cut_of old) (cut_of new) new.queries low told;
  follows = rw (stored, log) (all_follow (items ++ more) old.stored old.log old.queries new.queries (sym same)
      (All-weaker (Follows items old.stored old.log) (Follows (items ++ more) old.stored old.log) (λ live follows. follows_more items more old.stored old.log live follows) old.queries follows));
}
