-- What a reader is given of facts and of their changes.
use Rattle.std.proofs.Common.{◌≡◌, ℕ, ◌≤◌, Bool, true, false, List, [], ℤ, pos, ◌+ℤ◌, drop, length, refl, sym, ap, ◌∙◌, arith}
use Rattle.std.proofs.lemmas.Int.{ints}
use Rattle.std.proofs.lemmas.List.{drop_all}
use Rattle.rsp_multiset.specs.Weights.{only}
use Rattle.rsp_terms.specs.declared.statement.Fact.{Fact}
use Rattle.rsp_terms.specs.Same.{fact_eq, fact_same}

pub only-none : (b : Bool) → only b (pos 0) ≡ pos 0
only-none true = refl
only-none false = refl

pub only-sum : (b : Bool) (m n : ℤ) → only b (m +ℤ n) ≡ only b m +ℤ only b n
only-sum true m n = refl
only-sum false m n = refl

-- ---- so many of one fact

module _ (read : Fact → Bool) (fact q : Fact) (n : ℤ) where
  as_read : only (read fact) (only (fact_eq q fact) n) ≡ only (read q) (only (fact_eq q fact) n)
  as_read = by (fact_eq q fact) refl
    where
      by : (b : Bool) → fact_eq q fact ≡ b → only (read fact) (only b n) ≡ only (read q) (only b n)
      by true is = ap (λ z. only (read z) n) (sym ((fact_same q fact).0 is))
      by false apart = only-none (read fact) ∙ sym (only-none (read q))

  pub read_one : read fact ≡ true → only (fact_eq q fact) n ≡ only (read q) (only (fact_eq q fact) n)
  read_one is = sym (ap (λ b. only b (only (fact_eq q fact) n)) is) ∙ as_read

  pub unread_one : read fact ≡ false → pos 0 ≡ only (read q) (only (fact_eq q fact) n)
  unread_one is = sym (ap (λ b. only b (only (fact_eq q fact) n)) is) ∙ as_read

-- ---- one after another: what is left is a part and the rest

pub next_read : (b : Bool) (left part rest before after whole : ℤ) → left ≡ part +ℤ rest → after ≡ before +ℤ only b part
    → before +ℤ only b left ≡ whole → after +ℤ only b rest ≡ whole
next_read b left part rest before after whole split made so_far =
    let parts = ap (only b) split ∙ only-sum b part rest in
    omega (arith, ints, parts, made, so_far)

-- where nothing is left, all was given
pub none_left : {X : Type 0} (b : Bool) (f : List X → ℤ) (xs : List X) (i : ℕ) (have whole : ℤ) → f [] ≡ pos 0 → length xs ≤ i
    → have +ℤ only b (f (drop i xs)) ≡ whole → have ≡ whole
none_left b f xs i have whole nothing past so_far =
    let none = ap (only b) (ap f (drop_all i xs past) ∙ nothing) ∙ only-none b in
    omega (arith, ints, none, so_far)
