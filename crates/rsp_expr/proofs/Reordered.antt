-- Lists that are one multiset are reorderings of one another; what words without an order give of such lists is the same.
use Rattle.std.proofs.Common.{◌≡◌, ℕ, ◌+◌, suc, Bool, true, false, cond, ◌||◌, List, [], ◌∷◌, ℤ, pos, ◌+ℤ◌, Option, Some, None, length, map, refl, sym, ap, subst, ◌∙◌, true≢false, arith, Decides}
use Rattle.std.specs.Prelude.{⊤, option_map}
use Rattle.std.specs.List.{list_any, count_by, fold, reduce}
use Rattle.std.specs.Option.{option_and_then}
use Rattle.std.proofs.lemmas.Int.{ints}
use Rattle.rsp_multiset.specs.Weights.{only, times, IsSameMultiset}
use Rattle.rsp_multiset.proofs.Linear.{itself, length-same}
use Rattle.rsp_multiset.proofs.SameLists.{same-any}
use Rattle.rsp_expr.specs.Errors.{all_values}

-- neighbours change places
pub data IsReordered {E : Type 0} : List E → List E → Type 0 where
  nothing : IsReordered [] []
  behind : (x : E) (xs ys : List E) → IsReordered xs ys → IsReordered (x ∷ xs) (x ∷ ys)
  exchanged : (x y : E) (xs : List E) → IsReordered (x ∷ (y ∷ xs)) (y ∷ (x ∷ xs))
  onward : (xs ys zs : List E) → IsReordered xs ys → IsReordered ys zs → IsReordered xs zs

pub unmoved : {E : Type 0} (xs : List E) → IsReordered xs xs
unmoved [] = nothing
unmoved (x ∷ xs) = behind x xs xs (unmoved xs)

-- ---- what is the same of both lists

pub fold-reordered : {A B : Type 0} (f : B → A → B) → ((b : B) (x y : A) → f (f b x) y ≡ f (f b y) x) → (b : B) (xs ys : List A)
    → IsReordered xs ys → fold f b xs ≡ fold f b ys
fold-reordered f turns b left right nothing = refl
fold-reordered f turns b left right (behind x xs ys same) = fold-reordered f turns (f b x) xs ys same
fold-reordered f turns b left right (exchanged x y xs) = ap (λ c. fold f c xs) (turns b x y)
fold-reordered f turns b left right (onward xs ys zs first second) =
    fold-reordered f turns b xs ys first ∙ fold-reordered f turns b ys zs second

pub reduce-reordered : {A : Type 0} (f : A → A → A) → ((a b : A) → f a b ≡ f b a) → ((a x y : A) → f (f a x) y ≡ f (f a y) x)
    → (xs ys : List A) → IsReordered xs ys → reduce f xs ≡ reduce f ys
reduce-reordered f commutes turns left right nothing = refl
reduce-reordered f commutes turns left right (behind x xs ys same) = ap Some (fold-reordered f turns x xs ys same)
reduce-reordered f commutes turns left right (exchanged x y xs) = ap (λ a. Some (fold f a xs)) (commutes x y)
reduce-reordered f commutes turns left right (onward xs ys zs first second) =
    reduce-reordered f commutes turns xs ys first ∙ reduce-reordered f commutes turns ys zs second

pub added_in_turn : (n a b : ℕ) → (n + a) + b ≡ (n + b) + a
added_in_turn n a b = omega arith

pub count_by-reordered : {A : Type 0} (p : A → Bool) (xs ys : List A) → IsReordered xs ys → count_by p xs ≡ count_by p ys
count_by-reordered p xs ys same =
    fold-reordered (λ n x. n + cond (p x) 1 0) (λ n x y. added_in_turn n (cond (p x) 1 0) (cond (p y) 1 0)) 0 xs ys same

pub length-reordered : {A : Type 0} (xs ys : List A) → IsReordered xs ys → length xs ≡ length ys
length-reordered left right nothing = refl
length-reordered left right (behind x xs ys same) = ap suc (length-reordered xs ys same)
length-reordered left right (exchanged x y xs) = refl
length-reordered left right (onward xs ys zs first second) = length-reordered xs ys first ∙ length-reordered ys zs second

pub map-reordered : {A B : Type 0} (f : A → B) (xs ys : List A) → IsReordered xs ys → IsReordered (map f xs) (map f ys)
map-reordered f left right nothing = nothing
map-reordered f left right (behind x xs ys same) = behind (f x) (map f xs) (map f ys) (map-reordered f xs ys same)
map-reordered f left right (exchanged x y xs) = exchanged (f x) (f y) (map f xs)
map-reordered f left right (onward xs ys zs first second) =
    onward (map f xs) (map f ys) (map f zs) (map-reordered f xs ys first) (map-reordered f ys zs second)

-- ---- lists that may be missing

abbrev pub AreReordered : {A : Type 0} → Option (List A) → Option (List A) → Type 0
AreReordered None None = ⊤
AreReordered None (Some ys) = ⊥
AreReordered (Some xs) None = ⊥
AreReordered (Some xs) (Some ys) = IsReordered xs ys

both_behind : {A : Type 0} (x : A) (o p : Option (List A)) → AreReordered o p
    → AreReordered (option_map (λ others. x ∷ others) o) (option_map (λ others. x ∷ others) p)
both_behind x None None same = tt
both_behind x None (Some ys) same = same
both_behind x (Some xs) None same = same
both_behind x (Some xs) (Some ys) same = behind x xs ys same

both_exchanged : {A : Type 0} (x y : A) (o : Option (List A))
    → AreReordered
    (option_map (λ others. x ∷ others) (option_map (λ others. y ∷ others) o))
    (option_map (λ others. y ∷ others) (option_map (λ others. x ∷ others) o))
both_exchanged x y None = tt
both_exchanged x y (Some xs) = exchanged x y xs

both_onward : {A : Type 0} (o p q : Option (List A)) → AreReordered o p → AreReordered p q → AreReordered o q
both_onward None None q first second = second
both_onward None (Some ys) q first second = absurd first
both_onward (Some xs) None q first second = absurd first
both_onward (Some xs) (Some ys) None first second = second
both_onward (Some xs) (Some ys) (Some zs) first second = onward xs ys zs first second

exchanged_values : {A : Type 0} (x y : Option A) (values : List (Option A))
    → AreReordered (all_values (x ∷ (y ∷ values))) (all_values (y ∷ (x ∷ values)))
exchanged_values None None values = tt
exchanged_values None (Some y) values = tt
exchanged_values (Some x) None values = tt
exchanged_values (Some x) (Some y) values = both_exchanged x y (all_values values)

first_values : {A : Type 0} (x : Option A) (xs ys : List (Option A)) → AreReordered (all_values xs) (all_values ys)
    → AreReordered (all_values (x ∷ xs)) (all_values (x ∷ ys))
first_values None xs ys same = tt
first_values (Some x) xs ys same = both_behind x (all_values xs) (all_values ys) same

pub all_values-reordered : {A : Type 0} (xs ys : List (Option A)) → IsReordered xs ys → AreReordered (all_values xs) (all_values ys)
all_values-reordered left right nothing = nothing
all_values-reordered left right (behind x xs ys same) = first_values x xs ys (all_values-reordered xs ys same)
all_values-reordered left right (exchanged x y xs) = exchanged_values x y xs
all_values-reordered left right (onward xs ys zs first second) =
    both_onward (all_values xs) (all_values ys) (all_values zs)
    (all_values-reordered xs ys first) (all_values-reordered ys zs second)

given_both : {A B : Type 0} (f : List A → Option B) → ((xs ys : List A) → IsReordered xs ys → f xs ≡ f ys)
    → (o p : Option (List A)) → AreReordered o p → option_and_then f o ≡ option_and_then f p
given_both f alike None None same = refl
given_both f alike None (Some ys) same = absurd same
given_both f alike (Some xs) None same = absurd same
given_both f alike (Some xs) (Some ys) same = alike xs ys same

-- what all values give, where none is an error
pub given_all-reordered : {A B : Type 0} (f : List A → Option B) → ((xs ys : List A) → IsReordered xs ys → f xs ≡ f ys)
    → (xs ys : List (Option A)) → IsReordered xs ys → option_and_then f (all_values xs) ≡ option_and_then f (all_values ys)
given_all-reordered f alike xs ys same = given_both f alike (all_values xs) (all_values ys) (all_values-reordered xs ys same)

-- ---- from how often a list holds each value

pub counted_in_turn : (a b n : ℤ) → a +ℤ (b +ℤ n) ≡ b +ℤ (a +ℤ n)
counted_in_turn a b n = omega (arith, ints)

pub times-reordered : {E : Type 0} (eq : E → E → Bool) (q : E) (xs ys : List E) → IsReordered xs ys → times eq xs q ≡ times eq ys q
times-reordered eq q left right nothing = refl
times-reordered eq q left right (behind x xs ys same) = ap (λ n. only (eq q x) (pos 1) +ℤ n) (times-reordered eq q xs ys same)
times-reordered eq q left right (exchanged x y xs) =
    counted_in_turn (only (eq q x) (pos 1)) (only (eq q y) (pos 1)) (times eq xs q)
times-reordered eq q left right (onward xs ys zs first second) =
    times-reordered eq q xs ys first ∙ times-reordered eq q ys zs second

equal_rest : (a m n : ℤ) → a +ℤ m ≡ a +ℤ n → m ≡ n
equal_rest a m n same = omega (arith, ints, same)

module _ {E : Type 0} {eq : E → E → Bool} (same : (x y : E) → Decides (eq x y) (x ≡ y)) where
  -- the list without the first element that is x
  abbrev pub without_one : E → List E → List E
  without_one x [] = []
  without_one x (y ∷ ys) = cond (eq x y) ys (y ∷ without_one x ys)

  pub taken_out : (x : E) (ys : List E) → list_any (eq x) ys ≡ true → IsReordered (x ∷ without_one x ys) ys
  taken_out x [] there = absurd (true≢false (sym there))
  taken_out x (y ∷ ys) there = by (eq x y) refl there (taken_out x ys)
    where
      by : (b : Bool) → eq x y ≡ b → (b || list_any (eq x) ys) ≡ true
          → (list_any (eq x) ys ≡ true → IsReordered (x ∷ without_one x ys) ys)
          → IsReordered (x ∷ cond b ys (y ∷ without_one x ys)) (y ∷ ys)
      by true is found others = subst (λ z. IsReordered (x ∷ ys) (z ∷ ys)) ((same x y).0 is) (unmoved (x ∷ ys))
      by false is found others =
          onward (x ∷ (y ∷ without_one x ys)) (y ∷ (x ∷ without_one x ys)) (y ∷ ys) (exchanged x y (without_one x ys))
          (behind y (x ∷ without_one x ys) ys (others found))

  pub reordered : (xs ys : List E) → IsSameMultiset eq xs ys → IsReordered xs ys
  reordered [] [] alike = nothing
  reordered [] (y ∷ ys) alike =
      let lengths : 0 ≡ suc (length ys) = length-same same [] (y ∷ ys) alike in absurd (omega (arith, lengths))
  reordered (x ∷ xs) ys alike =
      let there : list_any (eq x) ys ≡ true =
      sym (same-any same (eq x) (x ∷ xs) ys alike) ∙ ap (λ b. b || list_any (eq x) xs) (itself same x) in
      let out = taken_out x ys there in
      onward (x ∷ xs) (x ∷ without_one x ys) ys
      (behind x xs (without_one x ys) (reordered xs (without_one x ys) (λ q.
      equal_rest (only (eq q x) (pos 1)) (times eq xs q) (times eq (without_one x ys) q)
      (alike q ∙ sym (times-reordered eq q (x ∷ without_one x ys) ys out)))))
      out
