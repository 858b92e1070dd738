-- The number of a variable is below how many variables stand behind it, and these only become more.
use Rattle.std.proofs.Common.{◌≡◌, ℕ, suc, ◌+◌, ◌<◌, ◌≤◌, Bool, true, false, true≢false, not, ◌||◌, cond, List, [], ◌∷◌, ◌++◌, length, refl, sym, arith}
use Rattle.std.specs.List.{list_any, position_or_len, prefix_len}
use Rattle.std.proofs.Math.Nat.{le_trans}
use Rattle.std.proofs.lemmas.List.{length-append}
use Rattle.std.proofs.lemmas.List.Sums.{prefix_len-le-length}
use Rattle.rsp_numbering.specs.declared.variable.Variable.{Variable}
use Rattle.rsp_numbering.specs.Naming.{Before, behind, is_same, number, with_variable}
use Rattle.rsp_numbering.specs.Same.{place_of}

-- how many variables stand before a place
abbrev pub count : Before → ℕ
count before = length before.variables

found : {X : Type 0} (p : X → Bool) (xs : List X) → list_any p xs ≡ true → position_or_len p xs < length xs
found p [] h = absurd (true≢false (sym h))
found p (x ∷ xs) h = by (p x) (found p xs) h
  where
    by : (b : Bool) → (list_any p xs ≡ true → position_or_len p xs < length xs) → (b || list_any p xs) ≡ true
        → cond (not b) (1 + prefix_len (λ y. not (p y)) xs) 0 < suc (length xs)
    by true rest is = omega arith
    by false rest is =
        let low : prefix_len (λ y. not (p y)) xs < length xs = rest is in
        omega (arith, low)

pub behind_grows : (before : Before) (v : Variable) → count before ≤ count (behind before v)
behind_grows before v = by (list_any (is_same v) before.variables)
  where
    by : (b : Bool) → count before ≤ length (cond b before.variables (before.variables ++ (v ∷ [])))
    by true = omega arith
    by false = rw (length-append before.variables (v ∷ [])) (omega arith)

place_below : (variables : List Variable) (v : Variable) → place_of variables v < length (with_variable variables v)
place_below variables v = by (list_any (is_same v) variables) refl
  where
    by : (b : Bool) → list_any (is_same v) variables ≡ b → place_of variables v < length (cond b variables (variables ++ (v ∷ [])))
    by true is = found (is_same v) variables is
    by false is =
        let low = prefix_len-le-length (λ x. not (is_same v x)) variables in
        rw (length-append variables (v ∷ [])) (omega (arith, low))

pub number_below : (n : ℕ) (before : Before) (v : Variable) → count (behind before v) ≤ n → number before v < n
number_below n before v h = le_trans (place_below before.variables v) h
