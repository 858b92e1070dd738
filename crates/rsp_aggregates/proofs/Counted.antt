-- Counts of values of which copies come or go.
use Rattle.std.proofs.Common.{◌≡◌, ℕ, zero, suc, ◌+◌, ◌-◌, ◌≤◌, Bool, true, false, cond, List, [], ◌∷◌, ◌++◌, length, refl, sym, ap, subst, ◌∙◌, arith, length-append}
use Rattle.std.specs.Prelude.{Option, is_some, pos}
use Rattle.std.specs.List.{count_by, fold}
use Rattle.rsp_aggregates.specs.Counts.{counted, counted_aggregate, Stands}
use Rattle.rsp_expr.specs.Functions.{numeral_result}
use Rattle.rsp_folds.specs.Copies.{copies}
use Rattle.rsp_number.specs.Numbers.{integer_result}
use Rattle.rsp_terms.specs.declared.term.Term.{Term}

copies-long : {E : Type 0} (n : ℕ) (x : E) → length (copies n x) ≡ n
copies-long zero x = refl
copies-long (suc n) x = ap suc (copies-long n x)

from-start : {A : Type 0} (p : A → Bool) (xs : List A) (m k : ℕ) → fold (λ n x. n + cond (p x) 1 0) (m + k) xs ≡ m + fold (λ n x. n + cond (p x) 1 0) k xs
from-start p [] m k = refl
from-start p (x ∷ xs) m k =
    ap (λ n. fold (λ j y. j + cond (p y) 1 0) n xs) (let split : m + k + cond (p x) 1 0 ≡ m + (k + cond (p x) 1 0) = omega arith in split)
    ∙ from-start p xs m (k + cond (p x) 1 0)

first-counted : {A : Type 0} (p : A → Bool) (x : A) (xs : List A) → count_by p (x ∷ xs) ≡ cond (p x) 1 0 + count_by p xs
first-counted p x xs =
    ap (λ n. fold (λ j y. j + cond (p y) 1 0) n xs) (let split : 0 + cond (p x) 1 0 ≡ cond (p x) 1 0 + 0 = omega arith in split)
    ∙ from-start p xs (cond (p x) 1 0) 0

more-counted : {A : Type 0} (p : A → Bool) (n : ℕ) (x : A) (xs : List A) → count_by p (copies n x ++ xs) ≡ cond (p x) n 0 + count_by p xs
more-counted p zero x xs = by (p x)
  where
    by : (b : Bool) → count_by p xs ≡ cond b 0 0 + count_by p xs
    by true = let none : 0 + count_by p xs ≡ count_by p xs = omega arith in sym none
    by false = let none : 0 + count_by p xs ≡ count_by p xs = omega arith in sym none
more-counted p (suc n) x xs = first-counted p x (copies n x ++ xs) ∙ by (p x) (more-counted p n x xs)
  where
    by : (b : Bool) → count_by p (copies n x ++ xs) ≡ cond b n 0 + count_by p xs
        → cond b 1 0 + count_by p (copies n x ++ xs) ≡ cond b (suc n) 0 + count_by p xs
    by true rest = omega (arith, rest)
    by false rest = omega (arith, rest)

pub counted-more : (rows : Bool) (n : ℕ) (value : Option Term) (values : List (Option Term))
    → counted rows (copies n value ++ values) ≡ cond (cond rows true (is_some value)) n 0 + counted rows values
counted-more true n value values = length-append (copies n value) values ∙ ap (λ m. m + length values) (copies-long n value)
counted-more false n value values = more-counted is_some n value values

pub long-more : (n : ℕ) (value : Option Term) (values : List (Option Term)) → length (copies n value ++ values) ≡ n + length values
long-more n value values = length-append (copies n value) values ∙ ap (λ m. m + length values) (copies-long n value)

counted-within : (rows : Bool) (values : List (Option Term)) → counted rows values ≤ length values
counted-within true values = omega arith
counted-within false [] = omega arith
counted-within false (value ∷ values) =
    let first = first-counted is_some value values in
    let rest = counted-within false values in
    by (is_some value) first rest
  where
    by : (b : Bool) → count_by is_some (value ∷ values) ≡ cond b 1 0 + count_by is_some values → count_by is_some values ≤ length values
        → count_by is_some (value ∷ values) ≤ suc (length values)
    by true first rest = omega (arith, first, rest)
    by false first rest = omega (arith, first, rest)

pub count-room : (rows : Bool) (count n : ℕ) (values : List (Option Term)) → Stands rows count values → length values + n ≤ 4294967296 → count + n ≤ 4294967296
count-room rows count n values stands room =
    let within = counted-within rows values in let is = stands.counts in omega (arith, within, is, room)

pub taken : (rows : Bool) (count n : ℕ) (value : Option Term) (values : List (Option Term)) → Stands rows count values → length values + n ≤ 4294967296
    → Stands rows (count + cond (cond rows true (is_some value)) n 0) (copies n value ++ values)
taken rows count n value values stands room = record {
  counts = let more = counted-more rows n value values in let is = stands.counts in omega (arith, more, is);
  short = let more = long-more n value values in omega (arith, more, room);
}

pub given-enough : (rows : Bool) (count n : ℕ) (value : Option Term) (values : List (Option Term)) → Stands rows count (copies n value ++ values)
    → cond (cond rows true (is_some value)) n 0 ≤ count
given-enough rows count n value values stands =
    let more = counted-more rows n value values in let is = stands.counts in omega (arith, more, is)

pub given : (rows : Bool) (count after n : ℕ) (value : Option Term) (values : List (Option Term)) → Stands rows count (copies n value ++ values)
    → count ≡ after + cond (cond rows true (is_some value)) n 0 → Stands rows after values
given rows count after n value values stands split = record {
  counts = let more = counted-more rows n value values in let is = stands.counts in omega (arith, more, is, split);
  short = let more = long-more n value values in let short = stands.short in omega (arith, more, short);
}

pub result-of : (rows : Bool) (count : ℕ) (values : List (Option Term)) → Stands rows count values
    → numeral_result (integer_result (pos count)) ≡ counted_aggregate rows values
result-of true count values stands = ap (λ n. numeral_result (integer_result (pos n))) stands.counts
result-of false count values stands = ap (λ n. numeral_result (integer_result (pos n))) stands.counts

-- ---- by whether the value is counted

module _ (rows : Bool) (count n : ℕ) (value : Option Term) (values : List (Option Term)) where
  pub taken-counted : cond rows true (is_some value) ≡ true → Stands rows count values → length values + n ≤ 4294967296 → Stands rows (count + n) (copies n value ++ values)
  taken-counted is stands room = subst (λ b. Stands rows (count + cond b n 0) (copies n value ++ values)) is (taken rows count n value values stands room)

  pub taken-other : cond rows true (is_some value) ≡ false → Stands rows count values → length values + n ≤ 4294967296 → Stands rows count (copies n value ++ values)
  taken-other is stands room =
      let none : count + 0 ≡ count = omega arith in
      subst (λ m. Stands rows m (copies n value ++ values)) none
      (subst (λ b. Stands rows (count + cond b n 0) (copies n value ++ values)) is (taken rows count n value values stands room))

  pub enough-counted : cond rows true (is_some value) ≡ true → Stands rows count (copies n value ++ values) → n ≤ count
  enough-counted is stands = subst (λ b. cond b n 0 ≤ count) is (given-enough rows count n value values stands)

  pub given-counted : cond rows true (is_some value) ≡ true → Stands rows count (copies n value ++ values) → Stands rows (count - n) values
  given-counted is stands =
      let enough = enough-counted is stands in
      let split : count ≡ (count - n) + n = omega (arith, enough) in
      given rows count (count - n) n value values stands (split ∙ ap (λ b. (count - n) + cond b n 0) (sym is))

  pub given-other : cond rows true (is_some value) ≡ false → Stands rows count (copies n value ++ values) → Stands rows count values
  given-other is stands =
      let split : count ≡ count + 0 = omega arith in
      given rows count count n value values stands (split ∙ ap (λ b. count + cond b n 0) (sym is))
