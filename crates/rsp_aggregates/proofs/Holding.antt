-- How often each value is in, where copies of one come or go.
use Rattle.std.proofs.Common.{◌≡◌, ℕ, ◌+◌, ◌-◌, ◌≤◌, nat_lt, Bool, true, false, true≢false, not, List, ◌++◌, ℤ, pos, neg_ℤ, ◌+ℤ◌, length, refl, sym, ◌∙◌, arith}
use Rattle.std.specs.Prelude.{Option, Some, None, ◌↔◌, IsTrue, ◌≤ℤ◌}
use Rattle.std.specs.Option.{option_eq}
use Rattle.std.proofs.lemmas.Int.{ints}
use Rattle.rsp_folds.specs.Copies.{copies}
use Rattle.rsp_multiset.specs.Weights.{only, weight, times}
use Rattle.rsp_multiset.proofs.Changing.{times-absent, times-present, times-ge}
use Rattle.rsp_terms.specs.declared.term.Term.{Term}
use Rattle.rsp_terms.specs.Same.{term_eq}
use Rattle.rsp_aggregates.specs.Held.{HoldsValues, is_in}
use Rattle.rsp_aggregates.proofs.Copying.{times-more, count-within, count-tells}
use Rattle.rsp_aggregates.proofs.Counted.{long-more}

abbrev cell_eq : Option Term → Option Term → Bool
cell_eq = option_eq term_eq

module _ (errors : ℕ) (terms : List (Term × ℤ)) (values : List (Option Term)) where
  pub error-in : HoldsValues errors terms values → nat_lt 0 errors ≡ is_in None values
  error-in holds = count-tells cell_eq values None errors holds.errors_in

  pub term-in : (term : Term) (count : ℤ) (zero : Bool) → count ≡ weight term_eq terms term → IsTrue zero ↔ (count ≡ pos 0) → HoldsValues errors terms values
      → not zero ≡ is_in (Some term) values
  term-in term count zero is zero_is holds = by zero (is_in (Some term) values) refl zero_is
    where
      all : count ≡ times cell_eq values (Some term)
      all = is ∙ holds.terms_in term

      by : (z b : Bool) → is_in (Some term) values ≡ b → IsTrue z ↔ (count ≡ pos 0) → not z ≡ b
      by true true there zero_is =
          let more = times-present cell_eq values (Some term) there in
          let none : count ≡ pos 0 = zero_is.0 refl in absurd (omega (arith, ints, more, none, all))
      by true false absent zero_is = refl
      by false true there zero_is = refl
      by false false absent zero_is =
          absurd (true≢false (sym (zero_is.1 (all ∙ times-absent cell_eq values (Some term) absent))))

  pub room : (n : ℕ) → HoldsValues errors terms values → length values + n ≤ 4294967296 → errors + n ≤ 4294967296
  room n holds few = let within = count-within cell_eq values None errors holds.errors_in in omega (arith, within, few)

  pub error-taken : (n : ℕ) → HoldsValues errors terms values → length values + n ≤ 4294967296 → HoldsValues (errors + n) terms (copies n None ++ values)
  error-taken n holds few = record {
    errors_in = let more = times-more cell_eq n None values None in let is = holds.errors_in in omega (arith, ints, more, is);
    terms_in = λ term. let more = times-more cell_eq n None values (Some term) in let is = holds.terms_in term in omega (arith, ints, more, is);
    short = let long = long-more n None values in omega (arith, long, few);
  }

  pub term-taken : (n : ℕ) (term : Term) (after : List (Term × ℤ))
      → ((q : Term) → weight term_eq after q ≡ weight term_eq terms q +ℤ only (term_eq q term) (pos n))
      → HoldsValues errors terms values → length values + n ≤ 4294967296 → HoldsValues errors after (copies n (Some term) ++ values)
  term-taken n term after changed holds few = record {
    errors_in = let more = times-more cell_eq n (Some term) values None in let is = holds.errors_in in omega (arith, ints, more, is);
    terms_in = λ q. let more = times-more cell_eq n (Some term) values (Some q) in let is = holds.terms_in q in let now = changed q in
        omega (arith, ints, more, is, now);
    short = let long = long-more n (Some term) values in omega (arith, long, few);
  }

  pub enough : (n : ℕ) → HoldsValues errors terms (copies n None ++ values) → n ≤ errors
  enough n holds =
      let more = times-more cell_eq n None values None in let is = holds.errors_in in let some = least values in
      omega (arith, ints, more, is, some)
    where
      least : (xs : List (Option Term)) → pos 0 ≤ℤ times cell_eq xs None
      least xs = times-ge cell_eq xs None

  pub error-given : (n : ℕ) → HoldsValues errors terms (copies n None ++ values) → HoldsValues (errors - n) terms values
  error-given n holds = record {
    errors_in = let more = times-more cell_eq n None values None in let is = holds.errors_in in let fits = enough n holds in
        omega (arith, ints, more, is, fits);
    terms_in = λ term. let more = times-more cell_eq n None values (Some term) in let is = holds.terms_in term in omega (arith, ints, more, is);
    short = let long = long-more n None values in let short = holds.short in omega (arith, long, short);
  }

  pub term-given : (n : ℕ) (term : Term) (after : List (Term × ℤ))
      → ((q : Term) → weight term_eq after q ≡ weight term_eq terms q +ℤ only (term_eq q term) (neg_ℤ (pos n)))
      → HoldsValues errors terms (copies n (Some term) ++ values) → HoldsValues errors after values
  term-given n term after changed holds = record {
    errors_in = let more = times-more cell_eq n (Some term) values None in let is = holds.errors_in in omega (arith, ints, more, is);
    terms_in = λ q. let more = times-more cell_eq n (Some term) values (Some q) in let is = holds.terms_in q in
        by (term_eq q term) (weight term_eq terms q) (weight term_eq after q) (times cell_eq values (Some q)) (is ∙ more) (changed q);
    short = let long = long-more n (Some term) values in let short = holds.short in omega (arith, long, short);
  }
    where
      by : (b : Bool) (before now all : ℤ) → before ≡ only b (pos n) +ℤ all → now ≡ before +ℤ only b (neg_ℤ (pos n)) → now ≡ all
      by true before now all is changed = omega (arith, ints, is, changed)
      by false before now all is changed = omega (arith, ints, is, changed)
