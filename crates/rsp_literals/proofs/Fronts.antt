-- Texts with one front, or one end, are compared by the rest.
use Rattle.std.specs.Prelude.{◌≡◌, ◌≢◌, ℕ, suc, ◌+◌, ◌%◌, ◌/◌, Bool, true, false, ◌&&◌, nat_eq, Option, Some, None, MatchOption, List, [], ◌∷◌, ◌++◌, refl}
use Rattle.std.specs.Str.{bytes_eq}
use Rattle.std.proofs.Common.{ap, sym, ◌∙◌, arith, Bor}
use Rattle.std.proofs.lemmas.Bool.Decides.{nat_tests}
use Rattle.rsp_expr.specs.Numerals.{last_digits}
use Rattle.rsp_literals.proofs.Differing.{not_equal}

equal_itself : (n : ℕ) → nat_eq n n ≡ true
equal_itself n = grind (arith, nat_tests)

same_front : (front rest body : List ℕ) → bytes_eq (front ++ rest) (front ++ body) ≡ bytes_eq rest body
same_front [] rest body = refl
same_front (x ∷ front) rest body = rw (equal_itself x) (same_front front rest body)

pub behind_is : (text front : List ℕ) (found : Option (Bor (List ℕ)))
    → MatchOption found ((rest : List ℕ) → text ≢ front ++ rest) (λ rest. text ≡ front ++ rest.now)
    → MatchOption found
    ((body : List ℕ) → bytes_eq text (front ++ body) ≡ false)
    (λ rest. (body : List ℕ) → bytes_eq text (front ++ body) ≡ bytes_eq rest.now body)
behind_is text front None other = λ body. not_equal text (front ++ body) (other body)
behind_is text front (Some rest) is = λ body. ap (λ t. bytes_eq t (front ++ body)) is ∙ same_front front rest.now body

no_end : (ys : List ℕ) (y : ℕ) → bytes_eq [] (ys ++ (y ∷ [])) ≡ false
no_end [] y = refl
no_end (z ∷ ys) y = refl

no_rest : (xs : List ℕ) (x : ℕ) → bytes_eq (xs ++ (x ∷ [])) [] ≡ false
no_rest [] x = refl
no_rest (z ∷ xs) x = refl

never : (a b : Bool) → (a && false) ≡ (b && false)
never true true = refl
never true false = refl
never false true = refl
never false false = refl

turned : (a b c : Bool) → (a && (b && c)) ≡ (b && (a && c))
turned true b c = refl
turned false true c = refl
turned false false c = refl

-- the ends and what stands before them
pub same_end : (xs ys : List ℕ) (x y : ℕ) → bytes_eq (xs ++ (x ∷ [])) (ys ++ (y ∷ [])) ≡ (nat_eq x y && bytes_eq xs ys)
same_end [] [] x y = refl
same_end [] (z ∷ ys) x y = ap (λ b. nat_eq x z && b) (no_end ys y) ∙ never (nat_eq x z) (nat_eq x y)
same_end (w ∷ xs) [] x y = ap (λ b. nat_eq w y && b) (no_rest xs x) ∙ never (nat_eq w y) (nat_eq x y)
same_end (w ∷ xs) (z ∷ ys) x y =
    ap (λ b. nat_eq w z && b) (same_end xs ys x y) ∙ turned (nat_eq w z) (nat_eq x y) (bytes_eq xs ys)

-- one digit of the last digits of a number
step : (text front : List ℕ) (last count less n : ℕ) → text ≡ front ++ (last ∷ []) → count ≡ suc less
    → bytes_eq text (last_digits count n) ≡ (nat_eq last (48 + n % 10) && bytes_eq front (last_digits less (n / 10)))
step text front last count less n is more =
    (λ i. bytes_eq (is i) (last_digits (more i) n)) ∙ same_end front (last_digits less (n / 10)) last (48 + n % 10)

pub digit_stands : (text front : List ℕ) (last count less n : ℕ) (others : Bool) → text ≡ front ++ (last ∷ [])
    → count ≡ suc less → nat_eq last (48 + n % 10) ≡ true → others ≡ bytes_eq front (last_digits less (n / 10))
    → others ≡ bytes_eq text (last_digits count n)
digit_stands text front last count less n others is more equal rest =
    rest ∙ sym (ap (λ b. b && bytes_eq front (last_digits less (n / 10))) equal) ∙ sym (step text front last count less n is more)

pub digit_differs : (text front : List ℕ) (last count less n : ℕ) → text ≡ front ++ (last ∷ [])
    → count ≡ suc less → nat_eq last (48 + n % 10) ≡ false → false ≡ bytes_eq text (last_digits count n)
digit_differs text front last count less n is more other =
    sym (ap (λ b. b && bytes_eq front (last_digits less (n / 10))) other) ∙ sym (step text front last count less n is more)
