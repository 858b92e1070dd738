-- Two ways to cut one list.
use Rattle.std.proofs.Common.{◌≡◌, ◌+◌, ◌<◌, ◌≤◌, List, [], ◌∷◌, ◌++◌, length, refl, sym, ap, ◌∙◌, subst, arith, length-append}

pub headed : {T : Type 0} → T → List T → T
headed d [] = d
headed d (x ∷ xs) = x

pub tailed : {T : Type 0} → List T → List T
tailed [] = []
tailed (x ∷ xs) = xs

pub same_head : {T : Type 0} {x y : T} {xs ys : List T} → x ∷ xs ≡ y ∷ ys → x ≡ y
unfolding headed
same_head {x = x} h = ap (headed x) h

pub same_tail : {T : Type 0} {x y : T} {xs ys : List T} → x ∷ xs ≡ y ∷ ys → xs ≡ ys
unfolding tailed
same_tail h = ap tailed h

IsFilled : {T : Type 0} → List T → Type 0
IsFilled [] = ⊥
IsFilled (x ∷ xs) = Unit {0}

pub no_nil : {T : Type 0} {x : T} {xs : List T} → x ∷ xs ≡ [] → ⊥
unfolding IsFilled
no_nil h = subst IsFilled h tt

pub no_cons : {T : Type 0} {x : T} {xs : List T} → [] ≡ x ∷ xs → ⊥
no_cons h = no_nil (sym h)

-- how left ++ right lies to used ++ ahead
pub data Cut {T : Type 0} (left right used ahead : List T) : Type 0 where
  level : left ≡ used → right ≡ ahead → Cut left right used ahead
  longer : (y : T) (m : List T) → left ≡ used ++ (y ∷ m) → ahead ≡ y ∷ (m ++ right) → Cut left right used ahead
  shorter : (y : T) (m : List T) → used ≡ left ++ (y ∷ m) → right ≡ y ∷ (m ++ ahead) → Cut left right used ahead

under_head : {T : Type 0} (x y : T) (left right used ahead : List T) → x ≡ y → Cut left right used ahead → Cut (x ∷ left) right (y ∷ used) ahead
under_head x y left right used ahead is (level a b) = level (ap (λ z. z ∷ left) is ∙ ap (λ zs. y ∷ zs) a) b
under_head x y left right used ahead is (longer z m a b) = longer z m (ap (λ w. w ∷ left) is ∙ ap (λ zs. y ∷ zs) a) b
under_head x y left right used ahead is (shorter z m a b) = shorter z m (ap (λ w. w ∷ used) (sym is) ∙ ap (λ zs. x ∷ zs) a) b

pub cut : {T : Type 0} (left right used ahead : List T) → left ++ right ≡ used ++ ahead → Cut left right used ahead
cut [] right [] ahead h = level refl h
cut (x ∷ left) right [] ahead h = longer x left refl (sym h)
cut [] right (y ∷ used) ahead h = shorter y used refl h
cut (x ∷ left) right (y ∷ used) ahead h = under_head x y left right used ahead (same_head h) (cut left right used ahead (same_tail h))

pub length_cons : {T : Type 0} (x : T) (xs : List T) → length (x ∷ xs) ≡ length xs + 1
length_cons x xs = omega arith

pub left_le : {T : Type 0} (ts left right : List T) → ts ≡ left ++ right → length left ≤ length ts
left_le ts left right h = let is = ap length h ∙ length-append left right in omega (arith, is)

pub right_le : {T : Type 0} (ts left right : List T) → ts ≡ left ++ right → length right ≤ length ts
right_le ts left right h = let is = ap length h ∙ length-append left right in omega (arith, is)

pub right_lt : {T : Type 0} (ts : List T) (x : T) (left right : List T) → ts ≡ (x ∷ left) ++ right → length right < length ts
right_lt ts x left right h =
    let is = ap length h ∙ length-append (x ∷ left) right in
    omega (arith, is, length_cons x left)
