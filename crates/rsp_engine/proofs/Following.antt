-- Windows that move to an instant one after the other, and how a live query then follows the items.
use Rattle.std.proofs.Common.{◌≡◌, ℕ, Bool, true, false, ◌+◌, ◌<◌, ◌≤◌, Some, List, [], ◌∷◌, ◌++◌, ℤ, pos, ◌+ℤ◌, length, map, take, drop, set, get_or, refl, sym, ap, subst, ◌∙◌, arith}
use Rattle.std.specs.List.{All}
use Rattle.std.specs.Vec.{with_items}
use Rattle.rsp_engine.specs.declared.live_query.LiveQuery.{LiveQuery}
use Rattle.std.proofs.lemmas.Int.{ints}
use Rattle.std.proofs.lemmas.List.{append-nil, drop-set-lt, drop_more, length-map, map-set, set-get_or, with_items_is, take-append-drop, take_all, take_more, take_more_set}
use Rattle.std.proofs.lemmas.List.Elements.{All-cons, All-get_or, All-head, All-nil, All-push, All-same, All-tail}
use Rattle.rsp_terms.specs.declared.statement.Fact.{Fact}
use Rattle.rsp_terms.specs.Same.{fact_eq, fact_same}
use Rattle.rsp_algebra.specs.Changing.{IsSet, MayChange}
use Rattle.rsp_algebra.specs.Meanings.{node_of}
use Rattle.rsp_algebra.specs.Reading.{reads}
use Rattle.rsp_algebra.specs.declared.tree.Translated.{Translated}
use Rattle.rsp_multiset.specs.Weights.{IsChanged, IsSameMultiset, only, times, weight}
use Rattle.rsp_multiset.proofs.Changing.{times-append}
use Rattle.rsp_multiset.proofs.Sums.{sum_z-append, sum_z-flat_map}
use Rattle.rsp_scope.specs.Contents.{Accepted, window_facts}
use Rattle.rsp_scope.specs.Ends.{HasContent}
use Rattle.rsp_scope.specs.Kept.{Kept}
use Rattle.rsp_scope.specs.Moves.{Followed, HasSeen}
use Rattle.rsp_scope.specs.Logged.{since}
use Rattle.rsp_scope.specs.Logged.{Log}
use Rattle.rsp_scope.proofs.Reading.{only-sum}
use Rattle.rsp_scope.proofs.Takings.{times-filter}
use Rattle.rsp_engine.specs.Contents.{facts_over, watches}
use Rattle.rsp_engine.specs.Seeing.{facts_seen}
use Rattle.rsp_engine.specs.Keeping.{watches_followed}
use Rattle.rsp_engine.specs.Passing.{HasContents, IsFollowed, facts_at, facts_read_at}
use Rattle.rsp_engine.specs.Stands.{Follows, IsStore, Live, facts_followed, is_read, unseen}
use Rattle.rsp_engine.proofs.FactSets.{may_change, once_read, seen_facts_once, set_once}

-- it has seen a beginning of these items
abbrev pub HasBegun : List Accepted → Followed → Type 0
HasBegun items seen = HasSeen seen (take seen.accepted items)

-- what one window saw
abbrev pub facts_by : List Accepted → Followed → List Fact
facts_by items seen = window_facts seen.watch seen.at (take seen.accepted items)

followed_one : (items : List Accepted) (seen : Followed) (q : Fact) → times fact_eq (facts_followed items (seen ∷ [])) q ≡ times fact_eq (facts_by items seen) q
followed_one items seen q = ap (λ facts. times fact_eq facts q) (append-nil (facts_by items seen))

followed_more : (items : List Accepted) (contents : List Followed) (seen : Followed) (q : Fact)
    → times fact_eq (facts_followed items (contents ++ seen ∷ [])) q ≡ times fact_eq (facts_followed items contents) q +ℤ times fact_eq (facts_followed items (seen ∷ [])) q
followed_more items contents seen q =
    sum_z-flat_map (λ fact. only (fact_eq q fact) (pos 1)) (facts_by items) (contents ++ seen ∷ [])
    ∙ (sum_z-append (λ x. times fact_eq (facts_by items x) q) contents (seen ∷ [])
    ∙ (λ i. sym (sum_z-flat_map (λ fact. only (fact_eq q fact) (pos 1)) (facts_by items) contents) i
    +ℤ sym (sum_z-flat_map (λ fact. only (fact_eq q fact) (pos 1)) (facts_by items) (seen ∷ [])) i))

-- ---- one window

-- what a window's move to t makes of it, with the change of its graph
abbrev pub Moved : Kept → ℕ → Followed → Followed → List (Fact × ℤ) → Type 0
Moved kept t old new change =
    (items more : List Accepted) → HasSeen old items → HasContent old.watch t kept (items ++ more)
    → HasSeen new (items ++ more) × IsChanged fact_eq (window_facts old.watch old.at items) change (window_facts old.watch (Some t) (items ++ more))

-- and what it adds to a change
abbrev pub MovedBy : Kept → ℕ → Followed → Followed → List (Fact × ℤ) → List (Fact × ℤ) → Type 0
MovedBy kept t old new before after =
    (items : List Accepted) → HasBegun items old → HasContent old.watch t kept items
    → HasBegun items new
    × ((q : Fact) → weight fact_eq after q +ℤ times fact_eq (facts_followed items (old ∷ [])) q ≡ weight fact_eq before q +ℤ times fact_eq (facts_followed items (new ∷ [])) q)
    × (new.accepted ≡ length items)

pub moved_by : (kept : Kept) (t : ℕ) (old new : Followed) (change before after : List (Fact × ℤ)) → new.watch ≡ old.watch → new.at ≡ Some t → Moved kept t old new change
    → ((q : Fact) → weight fact_eq after q ≡ weight fact_eq before q +ℤ weight fact_eq change q) → MovedBy kept t old new before after
moved_by kept t old new change before after watched at moved added items begun has =
    let whole = take-append-drop old.accepted items in
    let given = moved (take old.accepted items) (drop old.accepted items) begun (subst (λ l. HasContent old.watch t kept l) (sym whole) has) in
    let seen : HasSeen new items = subst (λ l. HasSeen new l) whole given.0 in
    let all : take new.accepted items ≡ items = take_all new.accepted items (let up : length items ≤ new.accepted = omega (arith, seen.accepted) in up) in
    let changed : IsChanged fact_eq (facts_by items old) change (window_facts old.watch (Some t) items) = subst (λ l. IsChanged fact_eq (facts_by items old) change (window_facts old.watch (Some t) l)) whole given.1 in (
      subst (λ l. HasSeen new l) (sym all) seen,
      (λ q.
          let one = followed_one items old q in
          let other = followed_one items new q in
          let now : times fact_eq (facts_by items new) q ≡ times fact_eq (window_facts old.watch (Some t) items) q = (λ i. times fact_eq (window_facts (watched i) (at i) (all i)) q) in
          let by = changed q in
          let sum = added q in
          omega (arith, ints, one, other, now, by, sum)),
      seen.accepted,
    )

-- ---- the windows, one after another

-- these windows have moved, and the change tells what their graphs gained and lost
pub record AreMoved (items : List Accepted) (olds news : List Followed) (before after : List (Fact × ℤ)) : Type 0 where
  pub begun : All (HasBegun items) news
  pub told : (q : Fact) → weight fact_eq after q +ℤ times fact_eq (facts_followed items olds) q ≡ weight fact_eq before q +ℤ times fact_eq (facts_followed items news) q
  pub accepted : All (λ (seen : Followed). seen.accepted ≡ length items) news

-- the first i have
pub record MoveOn (kept : Kept) (t i : ℕ) (olds news : List Followed) (before after : List (Fact × ℤ)) : Type 0 where
  pub watches : watches_followed news ≡ watches_followed olds
  pub rest : drop i news ≡ drop i olds
  pub at : All (λ (seen : Followed). seen.at ≡ Some t) (take i news)
  pub moved : (items : List Accepted) → All (HasBegun items) olds → HasContents items kept t (watches_followed olds) → AreMoved items (take i olds) (take i news) before after

pub none_moved : (kept : Kept) (t : ℕ) (olds : List Followed) (before : List (Fact × ℤ)) → MoveOn kept t 0 olds olds before before
none_moved kept t olds before = record {
  watches = refl;
  rest = refl;
  at = All-nil (λ (seen : Followed). seen.at ≡ Some t);
  moved = λ items begun has. record { begun = All-nil (HasBegun items); told = λ q. refl; accepted = All-nil (λ (seen : Followed). seen.accepted ≡ length items) };
}

all_of_map : {X Y : Type 0} (P : Y → Type 0) (f : X → Y) (xs : List X) → All P (map f xs) → All (λ x. P (f x)) xs
all_of_map P f [] all = All-nil (λ x. P (f x))
all_of_map P f (x ∷ xs) all = All-cons (λ y. P (f y)) x xs (All-head P (f x) (map f xs) all) (all_of_map P f xs (All-tail P (f x) (map f xs) all))

module _ (kept : Kept) (t i : ℕ) (olds news : List Followed) (before now after : List (Fact × ℤ)) (one new : Followed) (below : i < length news) (is : one ≡ get_or news i one)
    (on : MoveOn kept t i olds news before now) where
  as_long : length news ≡ length olds
  as_long = sym (length-map news (λ (seen : Followed). seen.watch)) ∙ (ap length on.watches ∙ length-map olds (λ (seen : Followed). seen.watch))

  below_old : i < length olds
  below_old = omega (arith, below, as_long)

  halves : get_or news i one ∷ drop (i + 1) news ≡ get_or olds i one ∷ drop (i + 1) olds
  halves = sym (drop_more news i one below) ∙ (on.rest ∙ drop_more olds i one below_old)

  old_is : get_or olds i one ≡ one
  old_is = sym (is ∙ ap (λ l. get_or l 0 one) halves)

  behind : drop (i + 1) (set news i new) ≡ drop (i + 1) olds
  behind = drop-set-lt (i + 1) news i new (omega arith) ∙ ap (λ l. drop 1 l) halves

  front : take (i + 1) (set news i new) ≡ take i news ++ new ∷ []
  front = take_more_set news i new below

  front_old : take (i + 1) olds ≡ take i olds ++ one ∷ []
  front_old = take_more olds i one below_old ∙ ap (λ x. take i olds ++ x ∷ []) old_is

  pub one_moved : new.watch ≡ one.watch → new.at ≡ Some t → MovedBy kept t one new now after → MoveOn kept t (i + 1) olds (set news i new) before after
  one_moved watched at moved = record {
    watches = map-set (λ (seen : Followed). seen.watch) news i new
        ∙ (ap (λ w. set (watches_followed news) i w) (watched ∙ ap (λ (seen : Followed). seen.watch) is)
        ∙ (sym (map-set (λ (seen : Followed). seen.watch) news i (get_or news i one))
        ∙ (ap watches_followed (set-get_or news i one) ∙ on.watches)));
    rest = behind;
    at = All-same (λ (seen : Followed). seen.at ≡ Some t) (take (i + 1) (set news i new)) (take i news ++ new ∷ []) front
        (All-push (λ (seen : Followed). seen.at ≡ Some t) (take i news) new on.at at);
    moved = λ items begun has.
        let so_far = on.moved items begun has in
        let own : HasBegun items one = subst (HasBegun items) old_is (All-get_or (HasBegun items) olds i one below_old begun) in
        let content : HasContent one.watch t kept items =
        subst (λ (x : Followed). HasContent x.watch t kept items) old_is
        (All-get_or (λ (x : Followed). HasContent x.watch t kept items) olds i one below_old (all_of_map (λ watch. HasContent watch t kept items) (λ (seen : Followed). seen.watch) olds has)) in
        let step = moved items own content in
        record {
          begun = All-same (HasBegun items) (take (i + 1) (set news i new)) (take i news ++ new ∷ []) front (All-push (HasBegun items) (take i news) new so_far.begun step.0);
          told = λ q.
              let a = so_far.told q in
              let b = step.1 q in
              let c = ap (λ l. times fact_eq (facts_followed items l) q) front_old ∙ followed_more items (take i olds) one q in
              let d = ap (λ l. times fact_eq (facts_followed items l) q) front ∙ followed_more items (take i news) new q in
              omega (arith, ints, a, b, c, d);
          accepted = All-same (λ (seen : Followed). seen.accepted ≡ length items) (take (i + 1) (set news i new)) (take i news ++ new ∷ []) front
              (All-push (λ (seen : Followed). seen.accepted ≡ length items) (take i news) new so_far.accepted step.2);
        };
  }

-- one that hasn't moved is as before
pub as_before : (P : Followed → Type 0) (kept : Kept) (t i : ℕ) (olds news : List Followed) (before now : List (Fact × ℤ)) (one : Followed) → i < length news
    → MoveOn kept t i olds news before now → All P olds → P (get_or news i one)
as_before P kept t i olds news before now one below on all =
    let long : length news ≡ length olds = sym (length-map news (λ (seen : Followed). seen.watch)) ∙ (ap length on.watches ∙ length-map olds (λ (seen : Followed). seen.watch)) in
    let below_old : i < length olds = omega (arith, below, long) in
    let halves : get_or news i one ∷ drop (i + 1) news ≡ get_or olds i one ∷ drop (i + 1) olds = sym (drop_more news i one below) ∙ (on.rest ∙ drop_more olds i one below_old) in
    subst P (sym (ap (λ l. get_or l 0 one) halves)) (All-get_or P olds i one below_old all)

-- all have
module _ (kept : Kept) (t i : ℕ) (olds news : List Followed) (before after : List (Fact × ℤ)) (past : length news ≤ i) (on : MoveOn kept t i olds news before after) where
  whole_new : take i news ≡ news
  whole_new = take_all i news past

  whole_old : take i olds ≡ olds
  whole_old =
      let long : length news ≡ length olds = sym (length-map news (λ (seen : Followed). seen.watch)) ∙ (ap length on.watches ∙ length-map olds (λ (seen : Followed). seen.watch)) in
      take_all i olds (let up : length olds ≤ i = omega (arith, long, past) in up)

  pub all_at : All (λ (seen : Followed). seen.at ≡ Some t) news
  all_at = All-same (λ (seen : Followed). seen.at ≡ Some t) news (take i news) (sym whole_new) on.at

  pub all_moved : (items : List Accepted) → All (HasBegun items) olds → HasContents items kept t (watches_followed olds) → AreMoved items olds news before after
  all_moved items begun has =
      subst (λ l. AreMoved items l news before after) whole_old (subst (λ l. AreMoved items (take i olds) l before after) whole_new (on.moved items begun has))

-- ---- what a live query then sees

-- a change holds what the tree reads of what the query hasn't seen of the stored quads, and of what its windows gained and lost
abbrev pub IsTold : List Fact → Log → Live → List (Fact × ℤ) → List (Fact × ℤ) → Type 0
IsTold stored log live shift changes = (q : Fact) → weight fact_eq changes q ≡ only (is_read live q) (unseen stored log live q +ℤ weight fact_eq shift q)

-- such a one is made of the two parts
pub told_of : (stored : List Fact) (log : Log) (live : Live) (fresh shift part changes : List (Fact × ℤ))
    → ((q : Fact) → weight fact_eq fresh q ≡ only (is_read live q) (unseen stored log live q))
    → ((q : Fact) → weight fact_eq part q ≡ only (is_read live q) (weight fact_eq shift q))
    → ((q : Fact) → weight fact_eq changes q ≡ weight fact_eq fresh q +ℤ weight fact_eq part q) → IsTold stored log live shift changes
told_of stored log live fresh shift part changes unseen_is part_is joined q =
    joined q ∙ ((λ i. unseen_is q i +ℤ part_is q i) ∙ sym (only-sum (is_read live q) (unseen stored log live q) (weight fact_eq shift q)))

-- windows that have moved to t see their graphs at t
followed_is : (items : List Accepted) (t : ℕ) (contents : List Followed) → All (λ (seen : Followed). seen.at ≡ Some t) contents
    → All (λ (seen : Followed). seen.accepted ≡ length items) contents → facts_followed items contents ≡ facts_seen items (watches_followed contents) t
followed_is items t [] at accepted = refl
followed_is items t (x ∷ xs) at accepted =
    let here : x.at ≡ Some t = All-head (λ (seen : Followed). seen.at ≡ Some t) x xs at in
    let counted : x.accepted ≡ length items = All-head (λ (seen : Followed). seen.accepted ≡ length items) x xs accepted in
    let all : take x.accepted items ≡ items = take_all x.accepted items (let up : length items ≤ x.accepted = omega (arith, counted) in up) in
    let rest = followed_is items t xs (All-tail (λ (seen : Followed). seen.at ≡ Some t) x xs at) (All-tail (λ (seen : Followed). seen.accepted ≡ length items) x xs accepted) in
    (λ i. window_facts x.watch (here i) (all i) ++ rest i)

module _ (items : List Accepted) (stored : List Fact) (log : Log) (live : Live) (t : ℕ) (news : List Followed) (shift changes : List (Fact × ℤ))
    (follows : Follows items stored log live)
    (watched : watches_followed news ≡ watches live.first live.windows)
    (at : All (λ (seen : Followed). seen.at ≡ Some t) news)
    (told : IsTold stored log live shift changes)
    (moved : AreMoved items live.contents news [] shift) where
  seen_is : facts_followed items news ≡ facts_over items live.first live.windows t
  seen_is = followed_is items t news at moved.accepted ∙ ap (λ ws. facts_seen items ws t) watched

  -- the change leads from what its answer stands for to what its tree reads of what it sees at t
  pub leads_to_now : IsChanged fact_eq live.seen changes (facts_read_at items stored live t)
  leads_to_now q = times-filter fact_same (is_read live) (facts_at items stored live t) q ∙ by (is_read live q) refl
    where
      by : (b : Bool) → is_read live q ≡ b → only b (times fact_eq (facts_at items stored live t) q) ≡ times fact_eq live.seen q +ℤ weight fact_eq changes q
      by true is =
          let before = follows.seen q is in
          let all : weight fact_eq changes q ≡ unseen stored log live q +ℤ weight fact_eq shift q = rw is at (told q) in
          let then = moved.told q in
          let now = ap (λ facts. times fact_eq facts q) seen_is in
          let both = times-append fact_eq stored (facts_over items live.first live.windows t) q in
          omega (arith, ints, before, all, then, now, both)
      by false is =
          let before = follows.unread q is in
          let none : weight fact_eq changes q ≡ pos 0 = rw is at (told q) in
          omega (arith, ints, before, none)

  -- where its answer then stands for that, and it has seen all of the log, it follows the items on
  pub follows_on : (new : Live) → new.query ≡ live.query → new.contents ≡ news → new.reported ≡ true → ((q : Fact) → since log new.place q ≡ pos 0)
      → IsChanged fact_eq live.seen changes new.seen → Follows items stored log new
  follows_on new same contents reported marked changed = record {
    contents = All-same (HasBegun items) new.contents news contents moved.begun;
    seen = λ q is.
        let read : is_read live q ≡ true = as_before q ∙ is in
        let none : unseen stored log new q ≡ pos 0 = rw reported (marked q) in
        let before = follows.seen q read in
        let all : weight fact_eq changes q ≡ unseen stored log live q +ℤ weight fact_eq shift q = rw read at (told q) in
        let then = moved.told q in
        let by = changed q in
        let own = ap (λ l. times fact_eq (facts_followed items l) q) contents in
        omega (arith, ints, none, before, all, then, by, own);
    unread = λ q is.
        let unread : is_read live q ≡ false = as_before q ∙ is in
        let before = follows.unread q unread in
        let none : weight fact_eq changes q ≡ pos 0 = rw unread at (told q) in
        let by = changed q in
        omega (arith, ints, before, none, by);
  }
    where
      as_before : (q : Fact) → is_read live q ≡ is_read new q
      as_before q = ap (λ (query : Translated). reads (node_of query.tree) q) (sym same)

-- what a move of all windows says
abbrev pub AllMoved : Kept → ℕ → List Followed → List Followed → List (Fact × ℤ) → List (Fact × ℤ) → Type 0
AllMoved kept t olds news before after =
    (items : List Accepted) → All (HasBegun items) olds → HasContents items kept t (watches_followed olds)
    → All (HasBegun items) news
    × ((q : Fact) → weight fact_eq after q +ℤ times fact_eq (facts_followed items olds) q ≡ weight fact_eq before q +ℤ times fact_eq (facts_followed items news) q)
    × All (λ (seen : Followed). seen.accepted ≡ length items) news

-- the windows of a live query, written back
pub contents_back : {A : Type 0} (live : LiveQuery A) (news : List Followed) → watches_followed news ≡ watches_followed live.contents.items
    → (with_items live.contents news).items ≡ news
contents_back live news same =
    with_items_is live.contents news
    (sym (length-map news (λ (seen : Followed). seen.watch)) ∙ (ap length same ∙ (length-map live.contents.items (λ (seen : Followed). seen.watch) ∙ sym live.contents.ok.0)))

-- ---- a live query whose windows have moved to t

module _ (kept : Kept) (stored : List Fact) (log : Log) (t : ℕ) (live : Live) (news : List Followed) (shift changes : List (Fact × ℤ))
    (watches_old : watches_followed live.contents ≡ watches live.first live.windows)
    (watches_new : watches_followed news ≡ watches_followed live.contents)
    (at : All (λ (seen : Followed). seen.at ≡ Some t) news)
    (told : IsTold stored log live shift changes)
    (moved : AllMoved kept t live.contents news [] shift) where
  module _ (items : List Accepted) (follows : Follows items stored log live) (contents : HasContents items kept t (watches live.first live.windows)) where
    are_moved : AreMoved items live.contents news [] shift
    are_moved =
        let given = moved items follows.contents (subst (HasContents items kept t) (sym watches_old) contents) in
        record { begun = given.0; told = given.1; accepted = given.2 }

    pub change_leads : IsChanged fact_eq live.seen changes (facts_read_at items stored live t)
    change_leads = leads_to_now items stored log live t news shift changes follows (watches_new ∙ watches_old) at told are_moved

    -- the answer then stands for what its tree reads of what it sees
    pub stands_for_now : (held : List Fact) → IsChanged fact_eq live.seen changes held → IsSameMultiset fact_eq held (facts_read_at items stored live t)
    stands_for_now held changed q = changed q ∙ sym (change_leads q)

    pub still_follows : (new : Live) → new.query ≡ live.query → new.contents ≡ news → new.reported ≡ true → ((q : Fact) → since log new.place q ≡ pos 0)
        → IsChanged fact_eq live.seen changes new.seen → Follows items stored log new
    still_follows = follows_on items stored log live t news shift changes follows (watches_new ∙ watches_old) at told are_moved

  pub allowed_change : IsStore stored → IsSet live.seen → IsFollowed kept stored log t live → MayChange live.seen changes
  allowed_change store set followed =
      may_change live.seen (facts_read_at followed.items stored live t) changes (set_once live.seen set)
      (once_read (is_read live) (facts_at followed.items stored live t) (seen_facts_once stored store followed.items live.first live.windows t))
      (change_leads followed.items followed.follows followed.contents)
