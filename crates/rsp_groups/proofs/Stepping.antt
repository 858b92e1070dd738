-- What one fold, and a group's folds, are given and keep.
use Rattle.std.proofs.Common.{◌≡◌, ℕ, zero, suc, ◌+◌, ◌≤◌, ◌<◌, Bool, true, false, true≢false, List, [], ◌∷◌, ◌++◌, length, map, get_or, refl, sym, ap, subst, ◌∙◌, arith, add-one, drop, drop-cons, append_assoc}
use Rattle.std.specs.Prelude.{Option, Result, Ok, Err, OnOk}
use Rattle.std.specs.List.{AllZip, AllByRecursion}
use Rattle.std.proofs.Math.ListN.{set}
use Rattle.rsp_folds.specs.Copies.{copies}
use Rattle.rsp_groups.specs.Moves.{Moved, AllMoved, MovedCount, IsShort, AreShort, MayMove, MayAllMove, columns, values_in, results_over}
use Rattle.rsp_groups.specs.Standing.{GroupStands}
use Rattle.rsp_groups.proofs.Moving.{room-before, moved-long, count-moved, columns-moved, columns-short, columns-long, values-long, zip-long, mixed, mixed-next, mixed-here, mixed-all, zip-at, zip-put, all_moved-long, all_moved-at, short-at}
use Rattle.rsp_multiset.specs.Rows.{Cells}
use Rattle.rsp_terms.specs.declared.term.Term.{Term}

pub on_ok : {T E : Type 0} (result : Result T E) {P Q : Type 0} → (P → Q) → OnOk result P → OnOk result Q
on_ok (Ok x) f p = f p
on_ok (Err why) f p = tt

pub on_ok_both : {T E : Type 0} (result : Result T E) {P Q R : Type 0} → (P → Q → R) → OnOk result P → OnOk result Q → OnOk result R
on_ok_both (Ok x) f p q = f p q
on_ok_both (Err why) f p q = tt

module _ {E : Type 0} (Stands : List E → Type 0) (n : ℕ) (x : E) where
  pub may-give : (out : Bool) → out ≡ true → MayMove Stands out n x → (values : List E) × Stands (copies n x ++ values)
  may-give false is may = absurd (true≢false (sym is))
  may-give true is may = (may.after, subst Stands may.moved may.stands)

  pub may-take : (out : Bool) → out ≡ false → MayMove Stands out n x → (values : List E) × (Stands values × (length values + n ≤ 4294967296))
  may-take true is may = absurd (true≢false is)
  may-take false is may = (may.before, (may.stands, room-before n x may.before may.after may.moved may.short))

  pub given-law : {T F : Type 0} (Stands' : List E → Type 0) (result : Result T F) (out : Bool) → out ≡ true
      → OnOk result ((values : List E) → Stands (copies n x ++ values) → Stands' values)
      → OnOk result ((before after : List E) → Moved out n x before after → IsShort after → Stands before → Stands' after)
  given-law Stands' result true is law = on_ok result (λ f before after moved short stands. f after (subst Stands moved stands)) law
  given-law Stands' result false is law = absurd (true≢false (sym is))

  pub taken-law : {T F : Type 0} (Stands' : List E → Type 0) (result : Result T F) (out : Bool) → out ≡ false
      → OnOk result ((values : List E) → Stands values → length values + n ≤ 4294967296 → Stands' (copies n x ++ values))
      → OnOk result ((before after : List E) → Moved out n x before after → IsShort after → Stands before → Stands' after)
  taken-law Stands' result false is law =
      on_ok result (λ f before after moved short stands. subst Stands' (sym moved) (f before stands (room-before n x before after moved short))) law
  taken-law Stands' result true is law = absurd (true≢false is)

-- ---- the folds up to a place

module _ {F E : Type 0} (stands : F → List E → Type 0) (out : Bool) (n : ℕ) (values : List E) (folds0 folds : List F) where
  abbrev pub Mixing : ℕ → Type 0
  Mixing place =
      (befores afters : List (List E)) → AllMoved out n values befores afters → AreShort afters → AllZip stands folds0 befores
      → AllZip stands folds (mixed place afters befores)

  pub may-next : (place : ℕ) (fold : F) (value : E) → place < length values → length values ≡ length folds0
      → value ≡ get_or values place value → MayAllMove (AllZip stands folds0) out n values → length folds ≡ length folds0
      → Mixing place → MayMove (stands (get_or folds place fold)) out n value
  may-next place fold value below long value_is may kept mixing =
      let lengths = all_moved-long out n values may.befores may.afters may.moved in
      record {
        before = get_or may.befores place [];
        after = get_or may.afters place [];
        moved = subst (λ v. Moved out n v (get_or may.befores place []) (get_or may.afters place [])) (sym value_is)
            (all_moved-at out n values may.befores may.afters place value [] [] below may.moved);
        stands =
            subst (stands (get_or folds place fold)) (mixed-here place may.afters may.befores [] (omega (arith, below, lengths.1)) (omega (arith, below, lengths.0)))
            (zip-at stands folds (mixed place may.afters may.befores) place fold [] (omega (arith, below, long, kept))
            (mixing may.befores may.afters may.moved may.short may.stand));
        short = short-at may.afters place [] (omega (arith, below, lengths.1)) may.short;
      }

  pub mixing-next : (place : ℕ) (fold fold' : F) (value : E) → place < length values → length values ≡ length folds0
      → value ≡ get_or values place value → length folds ≡ length folds0
      → ((before after : List E) → Moved out n value before after → IsShort after → stands (get_or folds place fold) before → stands fold' after)
      → Mixing place → (befores afters : List (List E)) → AllMoved out n values befores afters → AreShort afters → AllZip stands folds0 befores
      → AllZip stands (set folds place fold') (mixed (place + 1) afters befores)
  mixing-next place fold fold' value below long value_is kept law mixing befores afters moved short zip =
      let lengths = all_moved-long out n values befores afters moved in
      let below_afters : place < length afters = omega (arith, below, lengths.1) in
      let below_befores : place < length befores = omega (arith, below, lengths.0) in
      let so_far = mixing befores afters moved short zip in
      subst (λ i. AllZip stands (set folds place fold') (mixed i afters befores)) (sym (add-one place))
      (subst (AllZip stands (set folds place fold')) (sym (mixed-next place afters befores [] below_afters below_befores))
      (zip-put stands folds (mixed place afters befores) place fold' (get_or afters place []) so_far
      (law (get_or befores place []) (get_or afters place [])
      (subst (λ v. Moved out n v (get_or befores place []) (get_or afters place [])) (sym value_is)
      (all_moved-at out n values befores afters place value [] [] below moved))
      (short-at afters place [] below_afters short)
      (subst (stands (get_or folds place fold)) (mixed-here place afters befores [] below_afters below_befores)
      (zip-at stands folds (mixed place afters befores) place fold [] (omega (arith, below, long, kept)) so_far)))))

  pub mixing-end : (place : ℕ) → length folds0 ≤ place → length values ≡ length folds0 → Mixing place
      → (befores afters : List (List E)) → AllMoved out n values befores afters → AreShort afters → AllZip stands folds0 befores
      → AllZip stands folds afters
  mixing-end place past long mixing befores afters moved short zip =
      let lengths = all_moved-long out n values befores afters moved in
      subst (AllZip stands folds) (mixed-all place afters befores (lengths.0 ∙ sym lengths.1) (omega (arith, past, long, lengths.1)))
      (mixing befores afters moved short zip)

-- ---- a group

module _ {F : Type 0} (stands : F → List (Option Term) → Type 0) (aggregate : F → List (Option Term) → Option Term) (out : Bool) (n : ℕ)
    (arguments : List (Cells Term → Option Term)) (aggregates : List (List (Option Term) → Option Term)) (count count' : ℕ) (folds folds' : List F)
    (values : List (Option Term)) (row : Cells Term) (before after : List (Cells Term))
    (is : values ≡ values_in arguments row) (moved : Moved out n row before after) (counted : MovedCount out n count count') (few : count' ≤ 4294967296)
    (group : GroupStands stands aggregate arguments aggregates count folds before) where
  count-after : count' ≡ length after
  count-after =
      count-moved out n count count' (length after) counted
      (subst (λ m. MovedCount out n m (length after)) (sym group.count) (moved-long out n row before after moved))

  short-after : IsShort after
  short-after = subst (λ m. m ≤ 4294967296) count-after few

  pub group-long : length values ≡ length folds
  group-long =
      ap length is ∙ values-long arguments row ∙ sym (columns-long arguments before) ∙ sym (zip-long stands folds (columns arguments before) group.folds)

  pub group-may : MayAllMove (AllZip stands folds) out n values
  group-may = record {
    befores = columns arguments before;
    afters = columns arguments after;
    moved = subst (λ vs. AllMoved out n vs (columns arguments before) (columns arguments after)) (sym is) (columns-moved arguments out n row before after moved);
    stand = group.folds;
    short = columns-short arguments after short-after;
  }

  pub group-after : map aggregate folds' ≡ map aggregate folds
      → ((befores afters : List (List (Option Term))) → AllMoved out n values befores afters → AreShort afters → AllZip stands folds befores → AllZip stands folds' afters)
      → GroupStands stands aggregate arguments aggregates count' folds' after
  unfolding group-may
  group-after same law = record {
    count = count-after;
    folds = law (columns arguments before) (columns arguments after) group-may.moved group-may.short group.folds;
    aggregates = same ∙ group.aggregates;
  }

-- ---- what stays of folds of which one moved

pub map-put : {A B : Type 0} (f : A → B) (xs : List A) (i : ℕ) (y d : A) → f y ≡ f (get_or xs i d) → i < length xs → map f (set xs i y) ≡ map f xs
map-put f [] i y d same below = refl
map-put f (x ∷ xs) zero y d same below = ap (λ b. b ∷ map f xs) same
map-put f (x ∷ xs) (suc i) y d same below = ap (λ bs. f x ∷ bs) (map-put f xs i y d same (omega (arith, below)))

-- ---- results

module _ {F : Type 0} (stands : F → List (Option Term) → Type 0) (aggregate : F → List (Option Term) → Option Term) where
  pub results-next : (folds : List F) (lists : List (List (Option Term))) (i : ℕ) (fold : F) (found : Option Term) (out whole : List (Option Term))
      → i < length folds → fold ≡ get_or folds i fold → ((values : List (Option Term)) → stands fold values → found ≡ aggregate fold values)
      → AllZip stands folds lists → out ++ results_over (map aggregate (drop i folds)) (drop i lists) ≡ whole
      → (out ++ found ∷ []) ++ results_over (map aggregate (drop (i + 1) folds)) (drop (i + 1) lists) ≡ whole
  results-next folds lists i fold found out whole below is law zip so_far =
      let here : stands fold (get_or lists i []) = subst (λ f. stands f (get_or lists i [])) (sym is) (zip-at stands folds lists i fold [] below zip) in
      let one = law (get_or lists i []) here in
      let folds_split : drop i folds ≡ fold ∷ drop (i + 1) folds =
      drop-cons folds i fold below ∙ (λ j. sym is j ∷ drop (sym (add-one i) j) folds) in
      let lists_split : drop i lists ≡ get_or lists i [] ∷ drop (i + 1) lists =
      drop-cons lists i [] (omega (arith, below, zip-long stands folds lists zip)) ∙ (λ j. get_or lists i [] ∷ drop (sym (add-one i) j) lists) in
      append_assoc out (found ∷ []) _
      ∙ ap (λ v. out ++ v ∷ results_over (map aggregate (drop (i + 1) folds)) (drop (i + 1) lists)) one
      ∙ (λ j. out ++ results_over (map aggregate (sym folds_split j)) (sym lists_split j)) ∙ so_far

-- ---- folds with nothing in them

module _ {F A : Type 0} (stands : F → List (Option Term) → Type 0) (aggregate : F → List (Option Term) → Option Term)
    (arguments : List (Cells Term → Option Term)) (kind : A → List (Option Term) → Option Term) where
  nothing-zip : (folds : List F) (others : List (Cells Term → Option Term)) → length others ≡ length folds → AllByRecursion (λ fold. stands fold []) folds
      → AllZip stands folds (columns others [])
  nothing-zip [] [] long nothing = tt
  nothing-zip [] (of ∷ others) long nothing = let never : ⊥ = omega (arith, long) in absurd never
  nothing-zip (fold ∷ folds) [] long nothing = let never : ⊥ = omega (arith, long) in absurd never
  nothing-zip (fold ∷ folds) (of ∷ others) long nothing = (nothing.0, nothing-zip folds others (omega (arith, long)) nothing.1)

  mapped-long : {X Y : Type 0} (f : X → Y) (xs : List X) → length (map f xs) ≡ length xs
  mapped-long f [] = refl
  mapped-long f (x ∷ xs) = ap suc (mapped-long f xs)

  pub group-fresh : (aggregates : List A) (folds : List F) → length arguments ≡ length aggregates → AllByRecursion (λ fold. stands fold []) folds
      → map aggregate folds ≡ map kind aggregates → GroupStands stands aggregate arguments (map kind aggregates) 0 folds []
  group-fresh aggregates folds long nothing kinds = record {
    count = refl;
    folds = nothing-zip folds arguments (long ∙ sym (mapped-long kind aggregates) ∙ sym (ap length kinds) ∙ mapped-long aggregate folds) nothing;
    aggregates = kinds;
  }
