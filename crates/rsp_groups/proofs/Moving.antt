-- Copies that come into lists, or go out of them, one list after the other.
use Rattle.std.proofs.Common.{◌≡◌, ℕ, zero, suc, ◌+◌, ◌≤◌, ◌<◌, Bool, true, false, List, [], ◌∷◌, ◌++◌, length, map, get_or, refl, sym, ap, subst, ◌∙◌, arith, length-append}
use Rattle.std.specs.Prelude.{Option}
use Rattle.std.specs.List.{AllZip}
use Rattle.std.proofs.Math.ListN.{set}
use Rattle.std.proofs.lemmas.List.{map-append}
use Rattle.rsp_folds.specs.Copies.{copies}
use Rattle.rsp_groups.specs.Moves.{Moved, AllMoved, MovedCount, IsShort, AreShort, columns, values_in}
use Rattle.rsp_multiset.specs.Rows.{Cells}
use Rattle.rsp_terms.specs.declared.term.Term.{Term}

pub copies-long : {E : Type 0} (n : ℕ) (x : E) → length (copies n x) ≡ n
copies-long zero x = refl
copies-long (suc n) x = ap suc (copies-long n x)

pub copies-map : {A B : Type 0} (f : A → B) (n : ℕ) (x : A) → map f (copies n x) ≡ copies n (f x)
copies-map f zero x = refl
copies-map f (suc n) x = ap (λ ys. f x ∷ ys) (copies-map f n x)

more-map : {A B : Type 0} (f : A → B) (n : ℕ) (x : A) (xs ys : List A) → ys ≡ copies n x ++ xs → map f ys ≡ copies n (f x) ++ map f xs
more-map f n x xs ys is = ap (map f) is ∙ map-append f (copies n x) xs ∙ ap (λ zs. zs ++ map f xs) (copies-map f n x)

pub moved-map : {A B : Type 0} (f : A → B) (out : Bool) (n : ℕ) (x : A) (before after : List A) → Moved out n x before after
    → Moved out n (f x) (map f before) (map f after)
moved-map f false n x before after moved = more-map f n x before after moved
moved-map f true n x before after moved = more-map f n x after before moved

more-long : {A : Type 0} (n : ℕ) (x : A) (xs ys : List A) → ys ≡ copies n x ++ xs → length ys ≡ length xs + n
more-long n x xs ys is =
    let all = ap length is ∙ length-append (copies n x) xs in let some = copies-long n x in omega (arith, all, some)

pub moved-long : {A : Type 0} (out : Bool) (n : ℕ) (x : A) (before after : List A) → Moved out n x before after
    → MovedCount out n (length before) (length after)
moved-long false n x before after moved = more-long n x before after moved
moved-long true n x before after moved = more-long n x after before moved

pub count-moved : (out : Bool) (n a b c : ℕ) → MovedCount out n a b → MovedCount out n a c → b ≡ c
count-moved false n a b c first second = omega (arith, first, second)
count-moved true n a b c first second = omega (arith, first, second)

-- what may be taken is within the bounds of a fold
pub room-before : {A : Type 0} (n : ℕ) (x : A) (before after : List A) → Moved false n x before after → IsShort after
    → length before + n ≤ 4294967296
room-before n x before after moved short = let all = more-long n x before after moved in omega (arith, all, short)

-- ---- the columns of arguments

pub columns-moved : (arguments : List (Cells Term → Option Term)) (out : Bool) (n : ℕ) (row : Cells Term) (before after : List (Cells Term))
    → Moved out n row before after → AllMoved out n (values_in arguments row) (columns arguments before) (columns arguments after)
columns-moved [] out n row before after moved = tt
columns-moved (of ∷ arguments) out n row before after moved =
    (moved-map of out n row before after moved, columns-moved arguments out n row before after moved)

pub columns-short : (arguments : List (Cells Term → Option Term)) (rows : List (Cells Term)) → IsShort rows → AreShort (columns arguments rows)
columns-short [] rows short = tt
columns-short (of ∷ arguments) rows short =
    (subst (λ n. n ≤ 4294967296) (sym (long rows)) short, columns-short arguments rows short)
  where
    long : (xs : List (Cells Term)) → length (map of xs) ≡ length xs
    long [] = refl
    long (x ∷ xs) = ap suc (long xs)

pub zip-long : {A B : Type 0} (R : A → B → Type 0) (xs : List A) (ys : List B) → AllZip R xs ys → length xs ≡ length ys
zip-long R [] [] zip = refl
zip-long R [] (y ∷ ys) zip = absurd zip
zip-long R (x ∷ xs) [] zip = absurd zip
zip-long R (x ∷ xs) (y ∷ ys) zip = ap suc (zip-long R xs ys zip.1)

pub columns-long : (arguments : List (Cells Term → Option Term)) (rows : List (Cells Term)) → length (columns arguments rows) ≡ length arguments
columns-long [] rows = refl
columns-long (of ∷ arguments) rows = ap suc (columns-long arguments rows)

pub values-long : (arguments : List (Cells Term → Option Term)) (row : Cells Term) → length (values_in arguments row) ≡ length arguments
values-long [] row = refl
values-long (of ∷ arguments) row = ap suc (values-long arguments row)

-- ---- lists of which the first so many have moved

module _ {C : Type 0} where
  abbrev pub mixed : ℕ → List C → List C → List C
  mixed zero afters befores = befores
  mixed (suc i) [] befores = befores
  mixed (suc i) (a ∷ afters) [] = []
  mixed (suc i) (a ∷ afters) (b ∷ befores) = a ∷ mixed i afters befores

  pub mixed-next : (i : ℕ) (afters befores : List C) (d : C) → i < length afters → i < length befores
      → mixed (suc i) afters befores ≡ set (mixed i afters befores) i (get_or afters i d)
  mixed-next i [] befores d short short' = absurd (omega (arith, short))
  mixed-next i (a ∷ afters) [] d short short' = absurd (omega (arith, short'))
  mixed-next zero (a ∷ afters) (b ∷ befores) d short short' = refl
  mixed-next (suc i) (a ∷ afters) (b ∷ befores) d short short' =
      ap (λ cs. a ∷ cs) (mixed-next i afters befores d (omega (arith, short)) (omega (arith, short')))

  pub mixed-here : (i : ℕ) (afters befores : List C) (d : C) → i < length afters → i < length befores
      → get_or (mixed i afters befores) i d ≡ get_or befores i d
  mixed-here i [] befores d short short' = absurd (omega (arith, short))
  mixed-here i (a ∷ afters) [] d short short' = absurd (omega (arith, short'))
  mixed-here zero (a ∷ afters) (b ∷ befores) d short short' = refl
  mixed-here (suc i) (a ∷ afters) (b ∷ befores) d short short' =
      mixed-here i afters befores d (omega (arith, short)) (omega (arith, short'))

  pub mixed-all : (n : ℕ) (afters befores : List C) → length befores ≡ length afters → length afters ≤ n → mixed n afters befores ≡ afters
  mixed-all n [] [] long all = none n
    where
      none : (m : ℕ) → mixed m [] [] ≡ []
      none zero = refl
      none (suc m) = refl
  mixed-all n [] (b ∷ befores) long all = let never : ⊥ = omega (arith, long) in absurd never
  mixed-all n (a ∷ afters) [] long all = let never : ⊥ = omega (arith, long) in absurd never
  mixed-all zero (a ∷ afters) (b ∷ befores) long all = let never : ⊥ = omega (arith, all) in absurd never
  mixed-all (suc n) (a ∷ afters) (b ∷ befores) long all =
      ap (λ cs. a ∷ cs) (mixed-all n afters befores (omega (arith, long)) (omega (arith, all)))

module _ {A B : Type 0} (R : A → B → Type 0) where
  pub zip-at : (xs : List A) (ys : List B) (i : ℕ) (d : A) (e : B) → i < length xs → AllZip R xs ys → R (get_or xs i d) (get_or ys i e)
  zip-at [] [] i d e below zip = absurd (omega (arith, below))
  zip-at [] (y ∷ ys) i d e below zip = absurd zip
  zip-at (x ∷ xs) [] i d e below zip = absurd zip
  zip-at (x ∷ xs) (y ∷ ys) zero d e below zip = zip.0
  zip-at (x ∷ xs) (y ∷ ys) (suc i) d e below zip = zip-at xs ys i d e (omega (arith, below)) zip.1

  pub zip-put : (xs : List A) (ys : List B) (i : ℕ) (x : A) (y : B) → AllZip R xs ys → R x y → AllZip R (set xs i x) (set ys i y)
  zip-put [] [] i x y zip here = tt
  zip-put [] (z ∷ ys) i x y zip here = absurd zip
  zip-put (z ∷ xs) [] i x y zip here = absurd zip
  zip-put (z ∷ xs) (w ∷ ys) zero x y zip here = (here, zip.1)
  zip-put (z ∷ xs) (w ∷ ys) (suc i) x y zip here = (zip.0, zip-put xs ys i x y zip.1 here)

module _ {E : Type 0} (out : Bool) (n : ℕ) where
  pub all_moved-long : (xs : List E) (befores afters : List (List E)) → AllMoved out n xs befores afters
      → (length befores ≡ length xs) × (length afters ≡ length xs)
  all_moved-long [] [] [] moved = (refl, refl)
  all_moved-long [] [] (a ∷ afters) moved = absurd moved
  all_moved-long [] (b ∷ befores) afters moved = absurd moved
  all_moved-long (x ∷ xs) [] afters moved = absurd moved
  all_moved-long (x ∷ xs) (b ∷ befores) [] moved = absurd moved
  all_moved-long (x ∷ xs) (b ∷ befores) (a ∷ afters) moved =
      let rest = all_moved-long xs befores afters moved.1 in (ap suc rest.0, ap suc rest.1)

  pub all_moved-at : (xs : List E) (befores afters : List (List E)) (i : ℕ) (d : E) (e f : List E) → i < length xs
      → AllMoved out n xs befores afters → Moved out n (get_or xs i d) (get_or befores i e) (get_or afters i f)
  all_moved-at [] befores afters i d e f below moved = absurd (omega (arith, below))
  all_moved-at (x ∷ xs) [] afters i d e f below moved = absurd moved
  all_moved-at (x ∷ xs) (b ∷ befores) [] i d e f below moved = absurd moved
  all_moved-at (x ∷ xs) (b ∷ befores) (a ∷ afters) zero d e f below moved = moved.0
  all_moved-at (x ∷ xs) (b ∷ befores) (a ∷ afters) (suc i) d e f below moved =
      all_moved-at xs befores afters i d e f (omega (arith, below)) moved.1

pub short-at : {E : Type 0} (lists : List (List E)) (i : ℕ) (d : List E) → i < length lists → AreShort lists → IsShort (get_or lists i d)
short-at [] i d below short = absurd (omega (arith, below))
short-at (xs ∷ lists) zero d below short = short.0
short-at (xs ∷ lists) (suc i) d below short = short-at lists i d (omega (arith, below)) short.1
