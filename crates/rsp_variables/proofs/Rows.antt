-- What all rows of a list bind or leave unbound, and the lists that are made of it.
use Rattle.std.proofs.Common.{◌≡◌, ℕ, ◌<◌, Bool, true, false, true≢false, not, cond, ◌&&◌, ◌||◌, nat_eq, Option, None, Some, is_some, if◌then◌else◌, List, [], ◌∷◌, map, filter, length, refl, sym, ap, ◌∙◌}
use Rattle.std.specs.Prelude.{⊤}
use Rattle.std.specs.Bool.{then_some}
use Rattle.std.specs.Cmp.{unsigned_Decides}
use Rattle.std.specs.List.{AllByRecursion, filter_map, cons_option}
use Rattle.rsp_multiset.specs.RowLists.{merged_pair, merged_pairs, each_once}
use Rattle.rsp_multiset.specs.Rows.{Cells, bound_in_either, merge}
use Rattle.rsp_terms.specs.declared.term.Term.{Term}
use Rattle.rsp_algebra.specs.Patterns.{cell, among}
use Rattle.rsp_algebra.specs.Solutions.{projection, extension}
use Rattle.rsp_algebra.proofs.Widths.{AllHave, all-append, all-filter}
use Rattle.rsp_algebra.proofs.Bindings.{row_by-cell, merged-cell}
use Rattle.rsp_variables.specs.Sets.{AllBind}

-- ---- membership

with_false : (a b : Bool) → b ≡ false → (a && b) ≡ false
with_false true b h = h
with_false false b h = refl

pub among-filter : (p : ℕ → Bool) (xs : List ℕ) (v : ℕ) → among (filter p xs) v ≡ (among xs v && p v)
among-filter p [] v = refl
among-filter p (x ∷ xs) v = by (p x) refl (nat_eq v x) refl (among-filter p xs v)
  where
    by : (b : Bool) → p x ≡ b → (c : Bool) → nat_eq v x ≡ c → among (filter p xs) v ≡ (among xs v && p v) → among (cond b (x ∷ filter p xs) (filter p xs)) v ≡ ((nat_eq v x || among xs v) && p v)
    by true passes true is rest = (λ i. is i || among (filter p xs) v) ∙ sym ((λ i. (is i || among xs v) && p v) ∙ (ap p ((unsigned_Decides v x).0 is) ∙ passes))
    by true passes false is rest = (λ i. is i || among (filter p xs) v) ∙ (rest ∙ sym (λ i. (is i || among xs v) && p v))
    by false fails true is rest =
        rest
        ∙ (with_false (among xs v) (p v) (ap p ((unsigned_Decides v x).0 is) ∙ fails) ∙ sym ((λ i. (is i || among xs v) && p v) ∙ (ap p ((unsigned_Decides v x).0 is) ∙ fails)))
    by false fails false is rest = rest ∙ sym (λ i. (is i || among xs v) && p v)

pub either_is : (a b : Bool) → (a || b) ≡ false → (a ≡ false) × (b ≡ false)
either_is true b h = absurd (true≢false h)
either_is false b h = (refl, h)

-- ---- lists of rows

pub all-mapped : {X Y : Type 0} (P : Y → Type 0) (Q : X → Type 0) (f : X → Y) → ((x : X) → Q x → P (f x)) → (xs : List X) → AllByRecursion Q xs → AllByRecursion P (map f xs)
all-mapped P Q f on [] all = tt
all-mapped P Q f on (x ∷ xs) all = (on x all.0, all-mapped P Q f on xs all.1)

pub all-both : {X : Type 0} (P Q R : X → Type 0) → ((x : X) → P x → Q x → R x) → (xs : List X) → AllByRecursion P xs → AllByRecursion Q xs → AllByRecursion R xs
all-both P Q R on [] p q = tt
all-both P Q R on (x ∷ xs) p q = (on x p.0 q.0, all-both P Q R on xs p.1 q.1)

pub all-each_once : {X : Type 0} (P : X → Type 0) (eq : X → X → Bool) (xs : List X) → AllByRecursion P xs → AllByRecursion P (each_once eq xs)
all-each_once P eq [] all = tt
all-each_once P eq (x ∷ xs) all = (all.0, all-filter P (λ y. not (eq x y)) (each_once eq xs) (all-each_once P eq xs all.1))

pub all_true : {X : Type 0} (xs : List X) → AllByRecursion (λ (x : X). ⊤) xs
all_true [] = tt
all_true (x ∷ xs) = (tt, all_true xs)

-- ---- merged rows

pub either_binds : (x y : Option Term) → is_some (bound_in_either x y) ≡ (is_some x || is_some y)
either_binds (Some x) y = refl
either_binds None y = refl

-- where the rows of two lists are of one width, what is so of the cells of each pair is so of the merged rows
module _ (width v : ℕ) (P Q : Option Term → Type 0) (bound : Bool) (on : (x y : Option Term) → P x → Q y → (is_some x || is_some y) ≡ bound) (test : Cells Term → Cells Term → Bool) where
  merged-bind : (left right : Cells Term) → length left ≡ width → length right ≡ width → P (cell left v) → Q (cell right v) → is_some (cell (merge left right) v) ≡ bound
  merged-bind left right long long' p q =
      ap is_some (merged-cell left right v (long ∙ sym long')) ∙ (either_binds (cell left v) (cell right v) ∙ on (cell left v) (cell right v) p q)

  pairs-of : (left : Cells Term) (rights : List (Cells Term)) → length left ≡ width → AllHave width rights → P (cell left v) → AllByRecursion (λ row. Q (cell row v)) rights
      → AllBind bound v (filter_map (merged_pair test left) rights)
  pairs-of left [] long all p q = tt
  pairs-of left (right ∷ rights) long all p q = by (test left right) (pairs-of left rights long all.1 p q.1)
    where
      by : (b : Bool) → AllBind bound v (filter_map (merged_pair test left) rights) → AllBind bound v (cons_option (then_some b (merge left right)) (filter_map (merged_pair test left) rights))
      by true rest = (merged-bind left right long all.0 p q.0, rest)
      by false rest = rest

  pub pairs-bind : (lefts rights : List (Cells Term)) → AllHave width lefts → AllHave width rights → AllByRecursion (λ row. P (cell row v)) lefts → AllByRecursion (λ row. Q (cell row v)) rights
      → AllBind bound v (merged_pairs test lefts rights)
  pairs-bind [] rights long long' p q = tt
  pairs-bind (left ∷ lefts) rights long long' p q =
      all-append (λ row. is_some (cell row v) ≡ bound) (filter_map (merged_pair test left) rights) (merged_pairs test lefts rights) (pairs-of left rights long.0 long' p.0 q) (pairs-bind lefts rights long.1 long' p.1 q)

-- ---- rows made by their variables

pub extension-cell : (width variable : ℕ) (value : Option Term) (row : Cells Term) (v : ℕ) → v < width → cell (extension width variable value row) v ≡ (if nat_eq v variable then value else cell row v)
extension-cell width variable value row v below = row_by-cell width (λ v. if nat_eq v variable then value else cell row v) v below

pub projection-cell : (width : ℕ) (variables : List ℕ) (row : Cells Term) (v : ℕ) → v < width → cell (projection width variables row) v ≡ (if among variables v then cell row v else None)
projection-cell width variables row v below = row_by-cell width (λ v. if among variables v then cell row v else None) v below
