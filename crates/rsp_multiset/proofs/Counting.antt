-- Counts as they are added up along a list, one element at a time.
use Rattle.std.proofs.Common.{◌≡◌, ℕ, ◌+◌, ◌<◌, Bool, true, false, List, ◌∷◌, ℤ, pos, negsuc, ◌+ℤ◌, drop, length, get_or, refl, sym, ap, ◌∙◌, arith}
use Rattle.std.proofs.lemmas.Int.{ints}
use Rattle.std.proofs.lemmas.List.{at_drop_more}
use Rattle.rsp_multiset.specs.Weights.{only, times}

-- the next element comes in
pub one_more : {E : Type 0} (eq : E → E → Bool) (xs : List E) (i : ℕ) (x shared : E) (before after whole : ℤ) (q : E) → i < length xs → x ≡ get_or xs i x → shared ≡ x → after ≡ before +ℤ only (eq q shared) (pos 1) → before +ℤ times eq (drop i xs) q ≡ whole → after +ℤ times eq (drop (i + 1) xs) q ≡ whole
one_more eq xs i x shared before after whole q below is same made so_far =
    let step : times eq (drop i xs) q ≡ only (eq q x) (pos 1) +ℤ times eq (drop (i + 1) xs) q =
    at_drop_more (λ ys. times eq ys q) xs i x below
    ∙ ap (λ y. only (eq q y) (pos 1) +ℤ times eq (drop (i + 1) xs) q) (sym is)
    in
    let added : after ≡ before +ℤ only (eq q x) (pos 1) = made ∙ ap (λ y. before +ℤ only (eq q y) (pos 1)) same in
    omega (arith, ints, step, added, so_far)

taken : (b : Bool) → only b (negsuc 0) +ℤ only b (pos 1) ≡ pos 0
taken true = refl
taken false = refl

-- the next element goes out
pub one_less : {E : Type 0} (eq : E → E → Bool) (xs : List E) (i : ℕ) (x shared : E) (before after whole : ℤ) (q : E) → i < length xs → x ≡ get_or xs i x → shared ≡ x → after ≡ before +ℤ only (eq q shared) (negsuc 0) → whole +ℤ times eq (drop i xs) q ≡ before +ℤ times eq xs q → whole +ℤ times eq (drop (i + 1) xs) q ≡ after +ℤ times eq xs q
one_less eq xs i x shared before after whole q below is same made so_far =
    let step : times eq (drop i xs) q ≡ only (eq q x) (pos 1) +ℤ times eq (drop (i + 1) xs) q =
    at_drop_more (λ ys. times eq ys q) xs i x below
    ∙ ap (λ y. only (eq q y) (pos 1) +ℤ times eq (drop (i + 1) xs) q) (sym is)
    in
    let gone : after ≡ before +ℤ only (eq q x) (negsuc 0) = made ∙ ap (λ y. before +ℤ only (eq q y) (negsuc 0)) same in
    let pair = taken (eq q x) in
    omega (arith, ints, step, gone, pair, so_far)

-- the first of those that are left goes out
pub first_less : {E : Type 0} (eq : E → E → Bool) (x : E) (left rest : List E) (before after all whole : ℤ) (q : E) → left ≡ x ∷ rest → after ≡ before +ℤ only (eq q x) (negsuc 0) → before +ℤ all ≡ whole +ℤ times eq left q → after +ℤ all ≡ whole +ℤ times eq rest q
first_less eq x left rest before after all whole q is made so_far =
    let step = ap (λ ys. times eq ys q) is in
    let pair = taken (eq q x) in
    omega (arith, ints, step, pair, made, so_far)
