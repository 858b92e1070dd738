-- Entries one after the other, and what a domain learns on the way.
use Rattle.std.proofs.Common.{◌≡◌, ℕ, ◌+◌, ◌<◌, ◌≤◌, Bool, true, false, List, [], ◌∷◌, ◌++◌, ℤ, pos, ◌+ℤ◌, neg_ℤ, length, map, get_or, drop, drop-cons, add-one, sym, ap, subst, ◌∙◌, arith, append_assoc}
use Rattle.std.specs.List.{AllZip, AllByRecursion}
use Rattle.std.proofs.lemmas.List.{drop_all, map-append}
use Rattle.rsp_folds.specs.Copies.{copies}
use Rattle.rsp_groups.specs.Moves.{Moved, part}
use Rattle.rsp_groups.specs.Standing.{Steps, MayMoveEntry}
use Rattle.rsp_groups.proofs.Moving.{zip-at, zip-long}
use Rattle.rsp_multiset.specs.Rows.{Cells}
use Rattle.rsp_multiset.specs.Shown.{IsKnown}
use Rattle.rsp_multiset.specs.Weights.{only, times, weight, negation}
use Rattle.rsp_multiset.proofs.Held.{weight-negated}
use Rattle.std.proofs.lemmas.Int.{ints}
use Rattle.rsp_operators.specs.Laws.{IsShownAlike}
use Rattle.rsp_terms.specs.declared.term.Term.{Term}

-- no copies move nothing
pub none-moved : {E : Type 0} (out : Bool) (n : ℕ) (x : E) (before after : List E) → n ≡ 0 → Moved out n x before after → before ≡ after
none-moved false n x before after none moved = sym (moved ∙ ap (λ m. copies m x ++ before) none)
none-moved true n x before after none moved = moved ∙ ap (λ m. copies m x ++ after) none

pub drop-here : {X : Type 0} (xs : List X) (i : ℕ) (d : X) → i < length xs → drop i xs ≡ get_or xs i d ∷ drop (i + 1) xs
drop-here xs i d below = drop-cons xs i d below ∙ (λ j. get_or xs i d ∷ drop (sym (add-one i) j) xs)

module _ {X : Type 0} (Is : X → Cells Term × ℤ → Type 0) (out : Bool) (entries : List X) (rows : List (Cells Term × ℤ)) (i : ℕ) (entry : X)
    (below : i < length entries) (is : entry ≡ get_or entries i entry) (are : AllZip Is entries rows) where
  abbrev row_there : Cells Term × ℤ
  row_there = get_or rows i ([], pos 0)

  split : drop i rows ≡ row_there ∷ drop (i + 1) rows
  split = drop-here rows i ([], pos 0) (omega (arith, below, zip-long Is entries rows are))

  entry-is : Is entry row_there
  entry-is = subst (λ x. Is x row_there) (sym is) (zip-at Is entries rows i entry ([], pos 0) below are)

  steps-split : (middle after : List (Cells Term)) → Steps out (drop i rows) middle after
      → (next : List (Cells Term)) × (Moved out (part out row_there.1) row_there.0 middle next × Steps out (drop (i + 1) rows) next after)
  steps-split middle after steps = subst (λ es. Steps out es middle after) split steps

  pub step-may : (Stands : List (Cells Term) → Type 0) (middle after : List (Cells Term)) → Stands middle → Steps out (drop i rows) middle after
      → MayMoveEntry (Is entry) Stands out
  step-may Stands middle after stands steps =
      let here = steps-split middle after steps in
      record { row = row_there; before = middle; after = here.0; entry = entry-is; moved = here.1.0; stands = stands }

  pub step-next : (Stands Stands' : List (Cells Term) → Type 0) (middle after : List (Cells Term)) → Stands middle → Steps out (drop i rows) middle after
      → ((r : Cells Term × ℤ) (before next : List (Cells Term)) → Is entry r → Moved out (part out r.1) r.0 before next → Stands before → Stands' next)
      → (next : List (Cells Term)) × (Stands' next × Steps out (drop (i + 1) rows) next after)
  step-next Stands Stands' middle after stands steps law =
      let here = steps-split middle after steps in
      (here.0, (law row_there middle here.0 entry-is here.1.0 stands, here.1.1))

pub step-end : {X : Type 0} (Is : X → Cells Term × ℤ → Type 0) (out : Bool) (entries : List X) (rows : List (Cells Term × ℤ)) (i : ℕ)
    → length entries ≤ i → AllZip Is entries rows → (Stands : List (Cells Term) → Type 0) (middle after : List (Cells Term)) → Stands middle
    → Steps out (drop i rows) middle after → Stands after
step-end Is out entries rows i past are Stands middle after stands steps =
    subst Stands (subst (λ es. Steps out es middle after) (drop_all i rows (omega (arith, past, zip-long Is entries rows are))) steps) stands

-- ---- a domain that learns twice

module _ {V : Type 0} (knows0 knows1 knows2 : V → Type 0) (shown0 shown1 shown2 : V → Term)
    (first : (v : V) → knows0 v → IsShownAlike shown0 knows1 shown1 v) (next : (v : V) → knows1 v → IsShownAlike shown1 knows2 shown2 v) where
  pub alike-twice : (v : V) → knows0 v → IsShownAlike shown0 knows2 shown2 v
  alike-twice v known = ((next v (first v known).0).0, (next v (first v known).0).1 ∙ (first v known).1)

-- ---- lists that are built item by item

pub item-here : {X : Type 0} (xs : List X) (i : ℕ) (x : X) → i < length xs → x ≡ get_or xs i x → drop i xs ≡ x ∷ drop (i + 1) xs
item-here xs i x below is = drop-here xs i x below ∙ ap (λ y. y ∷ drop (i + 1) xs) (sym is)

module _ {X Y : Type 0} (f : X → Y) where
  pub term-next : (xs : List X) (i : ℕ) (x : X) (out out' : List Y) (y : Y) (whole : List Y) → drop i xs ≡ x ∷ drop (i + 1) xs → out' ≡ out ++ y ∷ [] → y ≡ f x
      → out ++ map f (drop i xs) ≡ whole → out' ++ map f (drop (i + 1) xs) ≡ whole
  term-next xs i x out out' y whole split pushed is so_far =
      ap (λ ys. ys ++ map f (drop (i + 1) xs)) pushed
      ∙ append_assoc out (y ∷ []) (map f (drop (i + 1) xs))
      ∙ ap (λ z. out ++ z ∷ map f (drop (i + 1) xs)) is ∙ ap (λ zs. out ++ map f zs) (sym split) ∙ so_far

pub mapped-next : {X Y Z : Type 0} (h : Z → Y) (f : X → Y) (here rest : List X) (x : X) (z : Z) (out out' : List Z) {whole : List Y} → here ≡ x ∷ rest → out' ≡ out ++ z ∷ [] → h z ≡ f x
    → map h out ++ map f here ≡ whole → map h out' ++ map f rest ≡ whole
mapped-next h f here rest x z out out' split pushed is so_far =
    ap (λ zs. map h zs ++ map f rest) pushed
    ∙ ap (λ ys. ys ++ map f rest) (map-append h out (z ∷ []))
    ∙ append_assoc (map h out) (h z ∷ []) (map f rest)
    ∙ ap (λ y. map h out ++ y ∷ map f rest) is ∙ ap (λ xs. map h out ++ map f xs) (sym split) ∙ so_far

pub known-here : {V : Type 0} (knows : V → Type 0) (here : List (Cells V × ℤ)) (row : Cells V) (n : ℤ) (rest : List (Cells V × ℤ)) → here ≡ (row, n) ∷ rest
    → AllByRecursion (λ (e : Cells V × ℤ). IsKnown knows e.0) here → IsKnown knows row × AllByRecursion (λ (e : Cells V × ℤ). IsKnown knows e.0) rest
known-here {V} knows here row n rest split known = subst (AllByRecursion (λ (e : Cells V × ℤ). IsKnown knows e.0)) split known

-- ---- keys that are counted

module _ {X K : Type 0} (eq : K → K → Bool) (key : X → K) where
  pub key-next : (xs : List X) (i : ℕ) (x : X) (shared : K) (kept kept' whole : ℤ) (q : K) → drop i xs ≡ x ∷ drop (i + 1) xs → shared ≡ key x
      → kept' ≡ kept +ℤ only (eq q shared) (pos 1) → kept +ℤ times eq (map key (drop i xs)) q ≡ whole → kept' +ℤ times eq (map key (drop (i + 1) xs)) q ≡ whole
  key-next xs i x shared kept kept' whole q split is made so_far =
      let step = ap (λ ys. times eq (map key ys) q) split in
      let one = ap (λ k. only (eq q k) (pos 1)) is in
      omega (arith, ints, step, one, made, so_far)

  pub key-end : (xs : List X) (i : ℕ) (kept whole : ℤ) (q : K) → length xs ≤ i → kept +ℤ times eq (map key (drop i xs)) q ≡ whole → kept ≡ whole
  key-end xs i kept whole q past so_far =
      let none = ap (λ ys. times eq (map key ys) q) (drop_all i xs past) in omega (arith, ints, none, so_far)

module _ {K : Type 0} (eq : K → K → Bool) where
  -- the first of those that are left comes in
  pub first-more : (x : K) (left rest : List K) (kept kept' whole : ℤ) (q : K) → left ≡ x ∷ rest → kept' ≡ kept +ℤ only (eq q x) (pos 1)
      → kept +ℤ times eq left q ≡ whole → kept' +ℤ times eq rest q ≡ whole
  first-more x left rest kept kept' whole q is made so_far = let step = ap (λ ys. times eq ys q) is in omega (arith, ints, step, made, so_far)

  pub none-more : (left : List K) (kept whole : ℤ) (q : K) → length left ≡ 0 → kept +ℤ times eq left q ≡ whole → kept ≡ whole
  none-more [] kept whole q none so_far = omega (arith, ints, so_far)
  none-more (x ∷ left) kept whole q none so_far = absurd (omega (arith, none))

  -- one list counted, turned, and another counted
  pub differ : (none first turned last : List (K × ℤ)) (befores afters : List K) (q : K) → none ≡ [] → weight eq first q ≡ weight eq none q +ℤ times eq befores q
      → turned ≡ negation first → weight eq last q ≡ weight eq turned q +ℤ times eq afters q → weight eq last q ≡ times eq afters q +ℤ neg_ℤ (times eq befores q)
  differ none first turned last befores afters q is one turn two =
      let start = ap (λ es. weight eq es q) is in
      let sign = ap (λ es. weight eq es q) turn ∙ weight-negated eq first q in
      omega (arith, ints, start, one, sign, two)
