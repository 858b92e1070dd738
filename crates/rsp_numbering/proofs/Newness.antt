-- A blank node in brackets and an aggregate are new where each variable before them has its number there.
use Rattle.std.proofs.Common.{◌≡◌, ℕ, suc, ◌+◌, Bool, true, false, true≢false, not, ◌&&◌, ◌||◌, cond, nat_lt, nat_eq, List, [], ◌∷◌, ◌++◌, length, refl, sym, ap, ◌∙◌, arith, rules, Result, Ok, Err, OnOk, OnErr}
use Rattle.std.specs.List.{list_all, list_any, position_or_len, prefix_len}
use Rattle.std.proofs.lemmas.Bool.Decides.{nat_tests}
use Rattle.std.proofs.lemmas.List.{length-append}
use Rattle.rsp_numbering.specs.declared.variable.Variable.{Variable}
use Rattle.rsp_numbering.specs.declared.variable.Variable.TheVariants.{Name, Label, Bracket, Aggregate}
use Rattle.rsp_numbering.specs.Naming.{is_same, with_variable}
use Rattle.rsp_numbering.specs.Same.{is_older, are_older, place_of}

-- ---- a list in which none passes

none : {X : Type 0} (p : X → Bool) (xs : List X) → list_any p xs ≡ false → position_or_len p xs ≡ length xs
none p [] is = refl
none p (x ∷ xs) is = by (p x) (none p xs) is
  where
    by : (b : Bool) → (list_any p xs ≡ false → position_or_len p xs ≡ length xs) → (b || list_any p xs) ≡ false
        → cond (not b) (1 + prefix_len (λ y. not (p y)) xs) 0 ≡ suc (length xs)
    by true rest is = absurd (true≢false is)
    by false rest is =
        let all : prefix_len (λ y. not (p y)) xs ≡ length xs = rest is in
        omega (arith, all)

apart : {X : Type 0} (p q : X → Bool) → ((x : X) → p x ≡ true → q x ≡ false) → (xs : List X) → list_all p xs ≡ true
    → list_any q xs ≡ false
apart p q h [] is = refl
apart p q h (x ∷ xs) is = by (p x) (q x) (h x) (apart p q h xs) is
  where
    by : (a b : Bool) → (a ≡ true → b ≡ false) → (list_all p xs ≡ true → list_any q xs ≡ false)
        → (a && list_all p xs) ≡ true → (b || list_any q xs) ≡ false
    by true true imp rest is = absurd (true≢false (imp refl))
    by true false imp rest is = rest is
    by false b imp rest is = absurd (true≢false (sym is))

-- ---- what is older isn't new

other_number : (n k : ℕ) → nat_lt k n ≡ true → nat_eq n k ≡ false
other_number n k h = grind (arith, nat_tests)

no_bracket : (n : ℕ) (v : Variable) → is_older n v ≡ true → is_same (Bracket n) v ≡ false
no_bracket n (Name select x) h = refl
no_bracket n (Label x) h = refl
no_bracket n (Bracket k) h = other_number n k h
no_bracket n (Aggregate k) h = refl

no_aggregate : (n : ℕ) (v : Variable) → is_older n v ≡ true → is_same (Aggregate n) v ≡ false
no_aggregate n (Name select x) h = refl
no_aggregate n (Label x) h = refl
no_aggregate n (Bracket k) h = refl
no_aggregate n (Aggregate k) h = other_number n k h

pub bracket_is_new : (variables : List Variable) → are_older variables ≡ true
    → place_of variables (Bracket (length variables)) ≡ length variables
bracket_is_new variables older =
    none (is_same (Bracket (length variables))) variables
    (apart (is_older (length variables)) (is_same (Bracket (length variables))) (no_bracket (length variables)) variables older)

pub aggregate_is_new : (variables : List Variable) → are_older variables ≡ true
    → place_of variables (Aggregate (length variables)) ≡ length variables
aggregate_is_new variables older =
    none (is_same (Aggregate (length variables))) variables
    (apart (is_older (length variables)) (is_same (Aggregate (length variables))) (no_aggregate (length variables)) variables older)

-- ---- behind one more variable

later : (n k : ℕ) → nat_lt k n ≡ true → nat_lt k (suc n) ≡ true
later n k h = grind (arith, nat_tests)

still_older : (n : ℕ) (v : Variable) → is_older n v ≡ true → is_older (suc n) v ≡ true
still_older n (Name select x) h = refl
still_older n (Label x) h = refl
still_older n (Bracket k) h = later n k h
still_older n (Aggregate k) h = later n k h

all_pushed : {X : Type 0} (p q : X → Bool) → ((x : X) → p x ≡ true → q x ≡ true) → (xs : List X) (y : X)
    → list_all p xs ≡ true → q y ≡ true → list_all q (xs ++ (y ∷ [])) ≡ true
all_pushed p q h [] y is last = ap (λ b. b && true) last
all_pushed p q h (x ∷ xs) y is last = by (p x) (q x) (h x) (λ r. all_pushed p q h xs y r last) is
  where
    by : (a b : Bool) → (a ≡ true → b ≡ true) → (list_all p xs ≡ true → list_all q (xs ++ (y ∷ [])) ≡ true)
        → (a && list_all p xs) ≡ true → (b && list_all q (xs ++ (y ∷ []))) ≡ true
    by true true imp rest is = rest is
    by true false imp rest is = absurd (true≢false (sym (imp refl)))
    by false b imp rest is = absurd (true≢false (sym is))

pub older_more : (variables : List Variable) (v : Variable) → are_older variables ≡ true
    → is_older (suc (length variables)) v ≡ true → are_older (with_variable variables v) ≡ true
older_more variables v older own = by (list_any (is_same v) variables)
  where
    pushed : are_older (variables ++ (v ∷ [])) ≡ true
    pushed =
        let count : length (variables ++ (v ∷ [])) ≡ suc (length variables) =
        length-append variables (v ∷ []) ∙ (omega arith) in
        rw count
        (all_pushed (is_older (length variables)) (is_older (suc (length variables))) (still_older (length variables)) variables v
        older own)

    by : (b : Bool) → are_older (cond b variables (variables ++ (v ∷ []))) ≡ true
    by true = older
    by false = pushed

pub older_after : {E : Type 0} (r : Result ℕ E) (old new : List Variable) (v : Variable) → OnOk r (new ≡ with_variable old v)
    → OnErr r (new ≡ old) → are_older old ≡ true → is_older (suc (length old)) v ≡ true → are_older new ≡ true
older_after (Ok n) old new v ok err older own =
    let is : new ≡ with_variable old v = search rules in
    rw is (older_more old v older own)
older_after (Err e) old new v ok err older own =
    let is : new ≡ old = search rules in
    rw is older
