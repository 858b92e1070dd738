-- Lists whose elements have distinct names: the one of a name is taken out, put in place or found.
use Rattle.std.proofs.Common.{◌≡◌, ℕ, zero, suc, ◌+◌, ◌-◌, ◌<◌, Bool, true, false, true≢false, not, ◌||◌, if◌then◌else◌, List, [], ◌∷◌, ◌++◌, map, filter, take, drop, length, remove, find, Some, slice_get, slice_set, refl, sym, ap, ◌∙◌, subst, arith, bytes_eq, add-one}
use Rattle.std.specs.List.{All, AllByRecursion, IsDistinct, list_any}
use Rattle.std.specs.Option.{option_map}
use Rattle.std.specs.Cmp.Lexicographic.{bytes_decides}
use Rattle.std.proofs.lemmas.List.{length_push, map-set}
use Rattle.std.proofs.lemmas.List.Elements.{All-append, All-cons, All-drop, All-take}
use Rattle.std.specs.Prelude.{slice_index_or}
use Rattle.std.proofs.lemmas.Option.{slice_get-get_or, slice_get-map}

-- ---- equal names

pub same_name : (name : List ℕ) → bytes_eq name name ≡ true
same_name name = (bytes_decides name name).1 refl

pub turned : (a b : List ℕ) → bytes_eq a b ≡ bytes_eq b a
turned a b =
    elim (bytes_eq a b) as (λ v. bytes_eq a b ≡ v → v ≡ bytes_eq b a) [
      | true ↦ λ is. sym ((bytes_decides b a).1 (sym ((bytes_decides a b).0 is)))
      | false ↦ λ is. elim (bytes_eq b a) as (λ v. bytes_eq b a ≡ v → false ≡ v) [
        | true ↦ λ other. sym is ∙ (bytes_decides a b).1 (sym ((bytes_decides b a).0 other))
        | false ↦ λ other. refl
      ] refl
    ] refl

-- ---- what holds of each image

pub unmapped : {X Y : Type 0} (P : Y → Type 0) (f : X → Y) (xs : List X) → All P (map f xs) → All (λ x. P (f x)) xs
unmapped P f [] all = λ k d below. absurd (omega (arith, below))
unmapped P f (x ∷ xs) all =
    All-cons (λ y. P (f y)) x xs (all 0 (f x) (omega arith)) (unmapped P f xs (λ k d below. all (suc k) d (omega (arith, below))))

-- ---- lists by place

pub get_map : {X Y : Type 0} (f : X → Y) (xs : List X) (i : ℕ) (x : X) → slice_get xs i ≡ Some x
    → slice_get (map f xs) i ≡ Some (f x)
get_map f xs i x listed = slice_get-map f xs i ∙ ap (option_map f) listed

pub get_index : {X : Type 0} (xs : List X) (i : ℕ) (x : X) → i < length xs → x ≡ slice_index_or xs i x → slice_get xs i ≡ Some x
get_index xs i x below is = slice_get-get_or xs i x below ∙ ap Some (sym is)

pub set_map : {X Y : Type 0} (f : X → Y) (xs : List X) (i : ℕ) (y : X) → map f (slice_set xs i y) ≡ slice_set (map f xs) i (f y)
set_map f xs i y = map-set f xs i y

pub set_same : {X : Type 0} (xs : List X) (i : ℕ) (x : X) → slice_get xs i ≡ Some x → slice_set xs i x ≡ xs
set_same [] i x listed = cc
set_same (y ∷ xs) zero x listed = let same : y ≡ x = cc in ap (λ z. z ∷ xs) (sym same)
set_same (y ∷ xs) (suc i) x listed = ap (λ ys. y ∷ ys) (set_same xs i x listed)

pub last_of : {X : Type 0} (xs : List X) (x : X) → slice_get (xs ++ x ∷ []) (length (xs ++ x ∷ []) - 1) ≡ Some x
last_of xs x =
    let last : length (xs ++ x ∷ []) - 1 ≡ length xs = omega (arith, length_push xs x) in
    rw last (at_end xs x)
  where
    at_end : {X : Type 0} (xs : List X) (x : X) → slice_get (xs ++ x ∷ []) (length xs) ≡ Some x
    at_end [] x = refl
    at_end (y ∷ xs) x = at_end xs x

pub remove_map : {X Y : Type 0} (f : X → Y) (xs : List X) (i : ℕ) → map f (remove xs i) ≡ remove (map f xs) i
remove_map f [] zero = refl
remove_map f [] (suc i) = refl
remove_map f (x ∷ xs) zero = refl
remove_map f (x ∷ xs) (suc i) = ap (λ ys. f x ∷ ys) (remove_map f xs i)

pub All-remove : {X : Type 0} (P : X → Type 0) (xs : List X) (i : ℕ) → All P xs → All P (remove xs i)
All-remove P xs i all = All-append P (take i xs) (drop (suc i) xs) (All-take P i xs all) (All-drop P (suc i) xs all)

-- ---- what differs from a name

-- no element has the name
abbrev IsNew : {X : Type 0} → (X → List ℕ) → List ℕ → List X → Type 0
IsNew key name xs = AllByRecursion (λ other. bytes_eq name other ≡ false) (map key xs)

new_at : {X : Type 0} (xs : List X) (key : X → List ℕ) (name : List ℕ) (i : ℕ) (x : X) → IsNew key name xs
    → slice_get xs i ≡ Some x
    → bytes_eq name (key x) ≡ false
new_at [] key name i x new listed = cc
new_at (y ∷ xs) key name zero x new listed = let same : y ≡ x = cc in subst (λ z. bytes_eq name (key z) ≡ false) same new.0
new_at (y ∷ xs) key name (suc i) x new listed = new_at xs key name i x new.1 listed

all_stay : {X : Type 0} (xs : List X) (key : X → List ℕ) (name : List ℕ) → IsNew key name xs
    → filter (λ y. not (bytes_eq (key y) name)) xs ≡ xs
all_stay [] key name new = refl
all_stay (y ∷ xs) key name new = rw (turned (key y) name, new.0) (ap (λ ys. y ∷ ys) (all_stay xs key name new.1))

none_change : {X : Type 0} (xs : List X) (key : X → List ℕ) (name : List ℕ) (g : X → X) → IsNew key name xs
    → map (λ y. if bytes_eq (key y) name then g y else y) xs ≡ xs
none_change [] key name g new = refl
none_change (y ∷ xs) key name g new = rw (turned (key y) name, new.0) (ap (λ ys. y ∷ ys) (none_change xs key name g new.1))

-- ---- distinct names

-- those of other names are all but the one
pub remove_named : {X : Type 0} (xs : List X) (key : X → List ℕ) (i : ℕ) (x : X) → IsDistinct bytes_eq (map key xs)
    → slice_get xs i ≡ Some x → filter (λ y. not (bytes_eq (key y) (key x))) xs ≡ remove xs i
unfolding IsDistinct
remove_named [] key i x distinct listed = cc
remove_named (y ∷ xs) key zero x distinct listed =
    let same : y ≡ x = cc in
    subst (λ z. filter (λ w. not (bytes_eq (key w) (key z))) (y ∷ xs) ≡ xs) same
    (rw (same_name (key y)) (all_stay xs key (key y) distinct.0))
remove_named (y ∷ xs) key (suc i) x distinct listed =
    rw (new_at xs key (key y) i x distinct.0 listed) (ap (λ ys. y ∷ ys) (remove_named xs key i x distinct.1 listed))

behind_named : {X : Type 0} (xs : List X) (key : X → List ℕ) (i : ℕ) (x : X) → IsDistinct bytes_eq (map key xs)
    → slice_get xs i ≡ Some x → drop i (remove xs i) ≡ filter (λ y. not (bytes_eq (key y) (key x))) (drop (suc i) xs)
unfolding IsDistinct
behind_named [] key i x distinct listed = cc
behind_named (y ∷ xs) key zero x distinct listed =
    let same : y ≡ x = cc in
    subst (λ z. xs ≡ filter (λ w. not (bytes_eq (key w) (key z))) xs) same (sym (all_stay xs key (key y) distinct.0))
behind_named (y ∷ xs) key (suc i) x distinct listed = behind_named xs key i x distinct.1 listed

-- those behind the one are all of other names
pub drop_named : {X : Type 0} (xs : List X) (key : X → List ℕ) (i : ℕ) (x : X) → IsDistinct bytes_eq (map key xs)
    → slice_get xs i ≡ Some x → drop i (remove xs i) ≡ filter (λ y. not (bytes_eq (key y) (key x))) (drop (i + 1) xs)
drop_named xs key i x distinct listed = rw add-one (behind_named xs key i x distinct listed)

-- a change of those of a name changes the one
pub set_named : {X : Type 0} (xs : List X) (key : X → List ℕ) (i : ℕ) (x : X) (g : X → X) → IsDistinct bytes_eq (map key xs)
    → slice_get xs i ≡ Some x → map (λ y. if bytes_eq (key y) (key x) then g y else y) xs ≡ slice_set xs i (g x)
unfolding IsDistinct
set_named [] key i x g distinct listed = cc
set_named (y ∷ xs) key zero x g distinct listed =
    let same : y ≡ x = cc in
    subst (λ z. map (λ w. if bytes_eq (key w) (key z) then g w else w) (y ∷ xs) ≡ g z ∷ xs) same
    (rw (same_name (key y)) (ap (λ ys. g y ∷ ys) (none_change xs key (key y) g distinct.0)))
set_named (y ∷ xs) key (suc i) x g distinct listed =
    rw (new_at xs key (key y) i x distinct.0 listed) (ap (λ ys. y ∷ ys) (set_named xs key i x g distinct.1 listed))

-- the one is found by its name
pub find_named : {X : Type 0} (xs : List X) (key : X → List ℕ) (i : ℕ) (x : X) → IsDistinct bytes_eq (map key xs)
    → slice_get xs i ≡ Some x → find (λ y. bytes_eq (key y) (key x)) xs ≡ Some x
unfolding IsDistinct
find_named [] key i x distinct listed = cc
find_named (y ∷ xs) key zero x distinct listed =
    let same : y ≡ x = cc in
    subst (λ z. find (λ w. bytes_eq (key w) (key z)) (y ∷ xs) ≡ Some z) same (rw (same_name (key y)) refl)
find_named (y ∷ xs) key (suc i) x distinct listed =
    rw (new_at xs key (key y) i x distinct.0 listed) (find_named xs key i x distinct.1 listed)

-- ---- names stay distinct

new_removed : {X : Type 0} (xs : List X) (key : X → List ℕ) (name : List ℕ) (i : ℕ) → IsNew key name xs
    → IsNew key name (remove xs i)
new_removed [] key name zero new = tt
new_removed [] key name (suc i) new = tt
new_removed (x ∷ xs) key name zero new = new.1
new_removed (x ∷ xs) key name (suc i) new = (new.0, new_removed xs key name i new.1)

-- one query fewer
pub distinct_removed : {X : Type 0} (xs : List X) (key : X → List ℕ) (i : ℕ) → IsDistinct bytes_eq (map key xs)
    → IsDistinct bytes_eq (map key (remove xs i))
unfolding IsDistinct
distinct_removed [] key zero distinct = tt
distinct_removed [] key (suc i) distinct = tt
distinct_removed (x ∷ xs) key zero distinct = distinct.1
distinct_removed (x ∷ xs) key (suc i) distinct = (new_removed xs key (key x) i distinct.0, distinct_removed xs key i distinct.1)

new_last : {X : Type 0} (xs : List X) (key : X → List ℕ) (name : List ℕ) (z : X) → IsNew key name xs
    → bytes_eq name (key z) ≡ false
    → IsNew key name (xs ++ z ∷ [])
new_last [] key name z new last = (last, tt)
new_last (x ∷ xs) key name z new last = (new.0, new_last xs key name z new.1 last)

-- one more, of a name that is free
pub distinct_more : {X : Type 0} (xs : List X) (key : X → List ℕ) (name : List ℕ) (z : X) → IsDistinct bytes_eq (map key xs)
    → list_any (λ y. bytes_eq (key y) name) xs ≡ false → key z ≡ name → IsDistinct bytes_eq (map key (xs ++ z ∷ []))
unfolding IsDistinct
distinct_more [] key name z distinct free is = (tt, tt)
distinct_more (x ∷ xs) key name z distinct free is =
    let parts = both_false (bytes_eq (key x) name) (list_any (λ y. bytes_eq (key y) name) xs) free in (
      new_last xs key (key x) z distinct.0 (rw is parts.0),
      distinct_more xs key name z distinct.1 parts.1 is,
    )
  where
    both_false : (a b : Bool) → (a || b) ≡ false → (a ≡ false) × (b ≡ false)
    both_false true b h = absurd (true≢false h)
    both_false false b h = (refl, h)
