-- What is seen of a log from a place.
use Rattle.std.proofs.Common.{◌≡◌, ℕ, zero, suc, ◌<◌, ◌≤◌, ◌+◌, Bool, true, false, true≢false, cond, nat_lt, List, [], ◌∷◌, ◌++◌, ℤ, pos, ◌+ℤ◌, drop, take, length, filter, slice_index_or, slice_set, refl, sym, ap, ◌∙◌, drop-cons, arith}
use Rattle.std.proofs.lemmas.Bool.Decides.{nat_tests}
use Rattle.std.proofs.lemmas.Int.{ints}
use Rattle.std.proofs.lemmas.List.{at_drop_more}
use Rattle.rsp_multiset.specs.Weights.{sum_z, only, weight}
use Rattle.rsp_multiset.proofs.Sums.{sum_z-alike, sum_z-append, sum_z-filter}
use Rattle.rsp_terms.specs.declared.statement.Fact.{Fact}
use Rattle.rsp_terms.specs.Same.{fact_eq}
use Rattle.rsp_scope.specs.Logged.{pieces_since}
use Rattle.rsp_scope.specs.Pieces.{EndBy}
use Rattle.rsp_scope.specs.declared.pieces.Piece.{Piece}
use Rattle.rsp_scope.proofs.Endings.{any-default}

module _ {X : Type 0} (f : X → ℤ) where
  pub sum-set : (xs : List X) (k : ℕ) (y d : X) → k < length xs → sum_z f (slice_set xs k y) +ℤ f (slice_index_or xs k d) ≡ sum_z f xs +ℤ f y
  sum-set [] k y d below = absurd (omega (arith, below))
  sum-set (x ∷ xs) zero y d below = omega (arith, ints)
  sum-set (x ∷ xs) (suc k) y d below = let h = sum-set xs k y d (omega (arith, below)) in omega (arith, ints, h)

  sum-halves : (xs : List X) (k : ℕ) → sum_z f (take k xs) +ℤ sum_z f (drop k xs) ≡ sum_z f xs
  sum-halves [] zero = refl
  sum-halves [] (suc k) = refl
  sum-halves (x ∷ xs) zero = omega (arith, ints)
  sum-halves (x ∷ xs) (suc k) = let h = sum-halves xs k in omega (arith, ints, h)

  pub sum-insert : (xs : List X) (k : ℕ) (y : X) → sum_z f (take k xs ++ y ∷ drop k xs) ≡ sum_z f xs +ℤ f y
  sum-insert xs k y = let all = sum_z-append f (take k xs) (y ∷ drop k xs) in let halves = sum-halves xs k in omega (arith, ints, all, halves)

  pub sum-remove : (xs : List X) (k : ℕ) (d : X) → k < length xs → sum_z f (take k xs ++ drop (suc k) xs) +ℤ f (slice_index_or xs k d) ≡ sum_z f xs
  sum-remove xs k d below =
      let all = sum_z-append f (take k xs) (drop (suc k) xs) in
      let halves = sum-halves xs k in
      let here = ap (λ l. sum_z f l) (drop-cons xs k d below) in
      omega (arith, ints, all, halves, here)

module _ (e : ℕ) where
  pub ends-append : (xs ys : List Piece) → EndBy e xs → EndBy e ys → EndBy e (xs ++ ys)
  ends-append [] ys h k = k
  ends-append (x ∷ xs) ys h k = (h.0, ends-append xs ys h.1 k)

  pub ends-take : (n : ℕ) (xs : List Piece) → EndBy e xs → EndBy e (take n xs)
  ends-take zero [] h = tt
  ends-take zero (x ∷ xs) h = tt
  ends-take (suc n) [] h = tt
  ends-take (suc n) (x ∷ xs) h = (h.0, ends-take n xs h.1)

  pub ends-drop : (n : ℕ) (xs : List Piece) → EndBy e xs → EndBy e (drop n xs)
  ends-drop zero [] h = h
  ends-drop zero (x ∷ xs) h = h
  ends-drop (suc n) [] h = tt
  ends-drop (suc n) (x ∷ xs) h = ends-drop n xs h.1

  pub ends-filter : (test : Piece → Bool) (xs : List Piece) → EndBy e xs → EndBy e (filter test xs)
  ends-filter test [] h = tt
  ends-filter test (x ∷ xs) h = by (test x) (ends-filter test xs h.1)
    where
      by : (b : Bool) → EndBy e (filter test xs) → EndBy e (cond b (x ∷ filter test xs) (filter test xs))
      by true rest = (h.0, rest)
      by false rest = rest

  pub ends-at : (xs : List Piece) (k : ℕ) (d : Piece) → k < length xs → EndBy e xs → (slice_index_or xs k d).end ≤ e
  ends-at [] k d below h = absurd (omega (arith, below))
  ends-at (x ∷ xs) zero d below h = h.0
  ends-at (x ∷ xs) (suc k) d below h = ends-at xs k d (omega (arith, below)) h.1

  pub ends-set : (xs : List Piece) (k : ℕ) (y : Piece) → y.end ≤ e → EndBy e xs → EndBy e (slice_set xs k y)
  ends-set [] k y low h = h
  ends-set (x ∷ xs) zero y low h = (low, h.1)
  ends-set (x ∷ xs) (suc k) y low h = (h.0, ends-set xs k y low h.1)

  pub ends-remove : (xs : List Piece) (k : ℕ) → EndBy e xs → EndBy e (take k xs ++ drop (suc k) xs)
  ends-remove xs k h = ends-append (take k xs) (drop (suc k) xs) (ends-take k xs h) (ends-drop (suc k) xs h)

  pub ends-insert : (xs : List Piece) (k : ℕ) (y : Piece) → y.end ≤ e → EndBy e xs → EndBy e (take k xs ++ y ∷ drop k xs)
  ends-insert xs k y low h = ends-append (take k xs) (y ∷ drop k xs) (ends-take k xs h) (low, ends-drop k xs h)

pub ends-later : (e later : ℕ) (xs : List Piece) → e ≤ later → EndBy e xs → EndBy later xs
ends-later e later [] more h = tt
ends-later e later (x ∷ xs) more h = (omega (arith, more, h.0), ends-later e later xs more h.1)

-- from the place at which all pieces end nothing is seen
pub none-since : (place : ℕ) (pieces : List Piece) → EndBy place pieces → (q : Fact) → pieces_since pieces place q ≡ pos 0
none-since place [] ends q = refl
none-since place (piece ∷ pieces) ends q =
    let early : nat_lt place piece.end ≡ false = grind (arith, nat_tests, ends.0) in
    (λ i. only (early i) (weight fact_eq piece.changes q) +ℤ none-since place pieces ends.1 q i)

-- a piece that ends by the first place isn't seen from a later one
kept-seen : (first place end : ℕ) (w : ℤ) → first ≤ place → only (nat_lt first end) (only (nat_lt place end) w) ≡ only (nat_lt place end) w
kept-seen first place end w before = by (nat_lt place end) refl (nat_lt first end) refl
  where
    by : (b : Bool) → nat_lt place end ≡ b → (a : Bool) → nat_lt first end ≡ a → only a (only b w) ≡ only b w
    by true seen true kept = refl
    by true seen false kept = absurd (grind (arith, nat_tests, seen, kept, before))
    by false seen true kept = refl
    by false seen false kept = refl

pub since-kept : (first place : ℕ) (pieces : List Piece) (q : Fact) → first ≤ place
    → pieces_since (filter (λ (piece : Piece). nat_lt first piece.end) pieces) place q ≡ pieces_since pieces place q
since-kept first place pieces q before =
    sum_z-filter (λ (piece : Piece). only (nat_lt place piece.end) (weight fact_eq piece.changes q)) (λ (piece : Piece). nat_lt first piece.end) pieces
    ∙ sum_z-alike (λ (piece : Piece). only (nat_lt first piece.end) (only (nat_lt place piece.end) (weight fact_eq piece.changes q)))
    (λ (piece : Piece). only (nat_lt place piece.end) (weight fact_eq piece.changes q))
    (λ piece. kept-seen first place piece.end (weight fact_eq piece.changes q) before) pieces

seen-whole : (place end : ℕ) (w : ℤ) → place < end → only (nat_lt place end) w ≡ w
seen-whole place end w before = let early : nat_lt place end ≡ true = grind (arith, nat_tests, before) in ap (λ b. only b w) early

pub since-push : (pieces : List Piece) (piece : Piece) (place : ℕ) (q : Fact) → place < piece.end
    → pieces_since (pieces ++ piece ∷ []) place q ≡ pieces_since pieces place q +ℤ weight fact_eq piece.changes q
since-push pieces piece place q before =
    let all = sum_z-append (λ (p : Piece). only (nat_lt place p.end) (weight fact_eq p.changes q)) pieces (piece ∷ []) in
    let one = seen-whole place piece.end (weight fact_eq piece.changes q) before in
    omega (arith, ints, all, one)

-- a piece that gains a change and ends where it did
pub since-set : (pieces : List Piece) (k : ℕ) (old new : Piece) (w : ℤ) (place : ℕ) (q : Fact) → k < length pieces → slice_index_or pieces k old ≡ old → new.end ≡ old.end
    → place < old.end → weight fact_eq new.changes q ≡ weight fact_eq old.changes q +ℤ w
    → pieces_since (slice_set pieces k new) place q ≡ pieces_since pieces place q +ℤ w
since-set pieces k old new w place q below is same before gained =
    let all = sum-set (λ (p : Piece). only (nat_lt place p.end) (weight fact_eq p.changes q)) pieces k new old below in
    let here = ap (λ (p : Piece). only (nat_lt place p.end) (weight fact_eq p.changes q)) is in
    let one = seen-whole place old.end (weight fact_eq old.changes q) before in
    let other = ap (λ n. only (nat_lt place n) (weight fact_eq new.changes q)) same ∙ seen-whole place old.end (weight fact_eq new.changes q) before in
    omega (arith, ints, all, here, one, other, gained)

-- two pieces that are seen from the same places, as one
one-seen : (a b : Bool) (v w : ℤ) → a ≡ b → only a v +ℤ only b w ≡ only b (v +ℤ w)
one-seen true true v w same = refl
one-seen false false v w same = refl
one-seen true false v w same = absurd (true≢false same)
one-seen false true v w same = absurd (true≢false (sym same))

abbrev seen : ℕ → Fact → Piece → ℤ
seen place q piece = only (nat_lt place piece.end) (weight fact_eq piece.changes q)

-- two neighbours x and y are taken out, and z comes in their place
pub since-one : (before less left after : List Piece) (at : ℕ) (x y z d : Piece) (place : ℕ) (q : Fact)
    → at + 1 < length before → less ≡ take at before ++ drop (suc at) before → x ≡ slice_index_or before at x
    → at < length less → left ≡ take at less ++ drop (suc at) less → y ≡ slice_index_or less at y
    → ((e : Piece) → slice_index_or less at e ≡ slice_index_or before (at + 1) e)
    → after ≡ take at left ++ z ∷ drop at left → z.end ≡ y.end → weight fact_eq z.changes q ≡ weight fact_eq x.changes q +ℤ weight fact_eq y.changes q
    → nat_lt place (slice_index_or before at d).end ≡ nat_lt place (slice_index_or before (at + 1) d).end
    → pieces_since after place q ≡ pieces_since before place q
since-one before less left after at x y z d place q two is-less is-x one is-left is-y shifted is-after ends joined alike =
    let first = sum-remove (seen place q) before at x (omega (arith, two)) in
    let a = ap (λ l. sum_z (seen place q) l) is-less in
    let hx = ap (seen place q) is-x in
    let second = sum-remove (seen place q) less at y one in
    let b = ap (λ l. sum_z (seen place q) l) is-left in
    let hy = ap (seen place q) is-y in
    let third = sum-insert (seen place q) left at z in
    let c = ap (λ l. sum_z (seen place q) l) is-after in
    let front : nat_lt place x.end ≡ nat_lt place (slice_index_or before at d).end
    = ap (λ (p : Piece). nat_lt place p.end) (is-x ∙ any-default before at x d (omega (arith, two))) in
    let back : nat_lt place y.end ≡ nat_lt place (slice_index_or before (at + 1) d).end
    = ap (λ (p : Piece). nat_lt place p.end) (is-y ∙ (shifted y ∙ any-default before (at + 1) y d two)) in
    let whole : seen place q x +ℤ seen place q y ≡ seen place q z
    = one-seen (nat_lt place x.end) (nat_lt place y.end) (weight fact_eq x.changes q) (weight fact_eq y.changes q) (front ∙ (alike ∙ sym back))
    ∙ (λ i. only (nat_lt place (sym ends i)) (sym joined i)) in
    omega (arith, ints, first, a, hx, second, b, hy, third, c, whole)

-- a walk over the pieces, one further
pub since-next : (pieces : List Piece) (i : ℕ) (piece : Piece) (place : ℕ) (q : Fact) → i < length pieces → piece ≡ slice_index_or pieces i piece
    → pieces_since (drop i pieces) place q ≡ seen place q piece +ℤ pieces_since (drop (i + 1) pieces) place q
since-next pieces i piece place q below is =
    at_drop_more (λ l. pieces_since l place q) pieces i piece below
    ∙ ap (λ (p : Piece). seen place q p +ℤ pieces_since (drop (i + 1) pieces) place q) (sym is)
