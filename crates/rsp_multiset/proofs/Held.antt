-- The weight of a value in distinct entries is what a look-up finds.
use Rattle.std.proofs.Common.{◌≡◌, ◌≢◌, ◌+◌, ℕ, Bool, true, false, cond, List, [], ◌∷◌, ◌++◌, ℤ, pos, ◌+ℤ◌, neg_ℤ, Option, Some, slice_get, drop, refl, sym, ap, subst, ◌∙◌, arith, add-one, drop-cons, Decides}
use Rattle.std.specs.Cmp.{IsEquivalence}
use Rattle.std.specs.List.{IsDistinct, AllByRecursion}
use Rattle.std.specs.Map.{keys_of, lookup}
use Rattle.std.specs.Option.{unwrap_or}
use Rattle.std.proofs.lemmas.Int.{ints}
use Rattle.std.proofs.lemmas.List.Elements.{All-from_recursion, recursion_from_All}
use Rattle.std.proofs.lemmas.Map.{NonePasses, lookup-none}
use Rattle.std.proofs.lemmas.Map.Entries.{none_past_head}
use Rattle.std.proofs.lemmas.Option.{none-some, slice_get_within, get_or_from_slice_get}
use Rattle.rsp_multiset.specs.Weights.{only, weight, negation, AreChanges}

head_or_rest : (b : Bool) (n w : ℤ) (rest : Option ℤ) → (b ≡ true → w ≡ pos 0) → (b ≡ false → w ≡ unwrap_or rest (pos 0)) → only b n +ℤ w ≡ unwrap_or (cond b (Some n) rest) (pos 0)
head_or_rest true n w rest h k = let z = h refl in omega (arith, ints)
head_or_rest false n w rest h k = let z = k refl in omega (arith, ints)

pub only-neg : (b : Bool) (n : ℤ) → only b (neg_ℤ n) ≡ neg_ℤ (only b n)
only-neg true n = refl
only-neg false n = refl

module _ {E : Type 0} (eq : E → E → Bool) where
  pub weight-none : (q : E) (es : List (E × ℤ)) → NonePasses (eq q) es → weight eq es q ≡ pos 0
  weight-none q [] none = refl
  weight-none q (e ∷ es) none = (λ i. only (none.0 i) e.1 +ℤ weight-none q es none.1 i)

  pub weight-append : (es ds : List (E × ℤ)) (q : E) → weight eq (es ++ ds) q ≡ weight eq es q +ℤ weight eq ds q
  weight-append [] ds q = omega (arith, ints)
  weight-append (e ∷ es) ds q = let h = weight-append es ds q in omega (arith, ints)

  pub weight-first : (es rest : List (E × ℤ)) (x : E) (n : ℤ) → es ≡ (x, n) ∷ rest → (q : E) → weight eq es q ≡ only (eq q x) n +ℤ weight eq rest q
  weight-first es rest x n split q = ap (λ l. weight eq l q) split

  pub weight-last : (before after : List (E × ℤ)) (e : E) (n : ℤ) → before ≡ after ++ (e, n) ∷ [] → (q : E) → weight eq before q ≡ weight eq after q +ℤ only (eq q e) n
  weight-last before after e n split q = ap (λ es. weight eq es q) split ∙ (let h = weight-append after ((e, n) ∷ []) q in omega (arith, ints))

  pub weight-negated : (es : List (E × ℤ)) (q : E) → weight eq (negation es) q ≡ neg_ℤ (weight eq es q)
  weight-negated [] q = refl
  weight-negated (e ∷ es) q = let h = weight-negated es q in let k = only-neg (eq q e.0) e.1 in omega (arith, ints)

  not_found_zero : (test : E → Bool) (es : List (E × ℤ)) → AllByRecursion (λ (e : E × ℤ). e.1 ≢ pos 0) es → lookup test es ≡ Some (pos 0) → ⊥
  not_found_zero test [] h found = none-some (pos 0) found
  not_found_zero test (e ∷ es) h found = by (test e.0) (not_found_zero test es h.1) found
    where
      by : (b : Bool) → (lookup test es ≡ Some (pos 0) → ⊥) → cond b (Some e.1) (lookup test es) ≡ Some (pos 0) → ⊥
      by true rest f = h.0 (ap (λ o. unwrap_or o (pos 0)) f)
      by false rest f = rest f

module _ {E : Type 0} {eq : E → E → Bool} (laws : IsEquivalence eq) where
  pub weight-held : (q : E) (es : List (E × ℤ)) → IsDistinct eq (keys_of es) → weight eq es q ≡ unwrap_or (lookup (eq q) es) (pos 0)
  unfolding IsDistinct
  weight-held q [] d = refl
  weight-held q (e ∷ es) d =
      head_or_rest (eq q e.0) e.1 (weight eq es q) (lookup (eq q) es) (λ h. weight-none eq q es (none_past_head laws q e es d h)) (λ _. weight-held q es d.1)

  -- no look-up finds 0, so no entry has it
  counted-found : (es : List (E × ℤ)) → IsDistinct eq (keys_of es) → ((q : E) → lookup (eq q) es ≡ Some (pos 0) → ⊥) → AllByRecursion (λ (e : E × ℤ). e.1 ≢ pos 0) es
  unfolding IsDistinct
  counted-found [] d h = tt
  counted-found (e ∷ es) d h =
      (λ z. h e.0 (ap (λ b. cond b (Some e.1) (lookup (eq e.0) es)) (laws.refl e.0) ∙ ap Some z), counted-found es d.1 (λ q f. h q (ap (λ b. cond b (Some e.1) (lookup (eq q) es)) (other q f) ∙ f)))
    where
      by : (q : E) → lookup (eq q) es ≡ Some (pos 0) → (b : Bool) → eq q e.0 ≡ b → b ≡ false
      by q f true t = absurd (none-some (pos 0) (sym (lookup-none (eq q) es (none_past_head laws q e es d t)) ∙ f))
      by q f false t = refl

      other : (q : E) → lookup (eq q) es ≡ Some (pos 0) → eq q e.0 ≡ false
      other q f = by q f (eq q e.0) refl

  -- an update of a look-up table, in weights
  pub weight-set : (es fs : List (E × ℤ)) → IsDistinct eq (keys_of es) → IsDistinct eq (keys_of fs) → (k : E) (w : Option ℤ) → ((q : E) → lookup (eq q) fs ≡ cond (eq k q) w (lookup (eq q) es))
      → (n : ℤ) → unwrap_or w (pos 0) ≡ n → (q : E) → weight eq fs q ≡ cond (eq q k) n (weight eq es q)
  weight-set es fs d d' k w update n is q =
      weight-held q fs d' ∙ ap (λ o. unwrap_or o (pos 0)) (update q) ∙ by (eq k q) ∙ ap (λ b. cond b n (weight eq es q)) (laws.symm k q)
    where
      by : (b : Bool) → unwrap_or (cond b w (lookup (eq q) es)) (pos 0) ≡ cond b n (weight eq es q)
      by true = is
      by false = sym (weight-held q es d)

  pub changes-set : (es fs : List (E × ℤ)) → AreChanges eq es → IsDistinct eq (keys_of fs) → (k : E) (w : Option ℤ) → ((q : E) → lookup (eq q) fs ≡ cond (eq k q) w (lookup (eq q) es))
      → (w ≡ Some (pos 0) → ⊥) → AreChanges eq fs
  changes-set es fs c d k w update n =
      record {
        distinct = d;
        counted = All-from_recursion (λ (e : E × ℤ). e.1 ≢ pos 0) fs (counted-found fs d (λ q f. by q (eq k q) (sym (update q) ∙ f)));
      }
    where
      by : (q : E) (b : Bool) → cond b w (lookup (eq q) es) ≡ Some (pos 0) → ⊥
      by q true f = n f
      by q false f = not_found_zero eq (eq q) es (recursion_from_All (λ (e : E × ℤ). e.1 ≢ pos 0) es c.counted) f

  -- the value of a key altered by so much, where a look-up found so much before
  pub weight-altered : ((x y : E) → Decides (eq x y) (x ≡ y)) → (es fs : List (E × ℤ)) → IsDistinct eq (keys_of es) → IsDistinct eq (keys_of fs) → (k : E) (w : Option ℤ) → ((q : E) → lookup (eq q) fs ≡ cond (eq k q) w (lookup (eq q) es))
      → (found by : ℤ) → unwrap_or (lookup (eq k) es) (pos 0) ≡ found → unwrap_or w (pos 0) ≡ found +ℤ by → (q : E) → weight eq fs q ≡ weight eq es q +ℤ only (eq q k) by
  weight-altered same es fs d d' k w update found by is sum q =
      weight-set es fs d d' k w update (found +ℤ by) sum q ∙ go (eq q k) refl
    where
      go : (b : Bool) → eq q k ≡ b → cond b (found +ℤ by) (weight eq es q) ≡ weight eq es q +ℤ only b by
      go true h =
          let held = weight-held k es d in
          let here = ap (weight eq es) ((same q k).0 h) in
          omega (arith, ints)
      go false h = omega (arith, ints)

module _ {E : Type 0} (eq : E → E → Bool) where
  pub changes-unchanged : (es fs : List (E × ℤ)) → fs ≡ es → AreChanges eq es → AreChanges eq fs
  changes-unchanged es fs is c = subst (AreChanges eq) (sym is) c

  pub weight-unchanged : (es fs : List (E × ℤ)) (k : E) (by : ℤ) → fs ≡ es → by ≡ pos 0 → (q : E) → weight eq fs q ≡ weight eq es q +ℤ only (eq q k) by
  weight-unchanged es fs k by is none q = go (eq q k)
    where
      go : (b : Bool) → weight eq fs q ≡ weight eq es q +ℤ only b by
      go true = let same = ap (λ l. weight eq l q) is in omega (arith, ints)
      go false = let same = ap (λ l. weight eq l q) is in omega (arith, ints)

-- the list from a place on
pub drop_here : {X : Type 0} (xs : List X) (i : ℕ) (x : X) → slice_get xs i ≡ Some x → drop i xs ≡ x ∷ drop (i + 1) xs
drop_here xs i x h = drop-cons xs i x (slice_get_within xs i x h) ∙ (λ j. get_or_from_slice_get xs i x x h j ∷ drop (sym (add-one i) j) xs)

module _ {E : Type 0} (eq : E → E → Bool) where
  keys-negated : (es : List (E × ℤ)) → keys_of (negation es) ≡ keys_of es
  keys-negated [] = refl
  keys-negated (e ∷ es) = (λ i. e.0 ∷ keys-negated es i)

  zero-negated : (n : ℤ) → neg_ℤ n ≡ pos 0 → n ≡ pos 0
  zero-negated n h = omega (arith, ints)

  counted-negated : (es : List (E × ℤ)) → AllByRecursion (λ (e : E × ℤ). e.1 ≢ pos 0) es → AllByRecursion (λ (e : E × ℤ). e.1 ≢ pos 0) (negation es)
  counted-negated [] h = tt
  counted-negated (e ∷ es) h = (λ z. h.0 (zero-negated e.1 z), counted-negated es h.1)

  pub changes-negated : (es : List (E × ℤ)) → AreChanges eq es → AreChanges eq (negation es)
  changes-negated es c =
      record {
        distinct = subst (IsDistinct eq) (sym (keys-negated es)) c.distinct;
        counted = All-from_recursion (λ (e : E × ℤ). e.1 ≢ pos 0) (negation es) (counted-negated es (recursion_from_All (λ (e : E × ℤ). e.1 ≢ pos 0) es c.counted));
      }
