-- Sums of values of which copies come or go.
use Rattle.std.proofs.Common.{◌≡◌, ℕ, zero, suc, ◌+◌, ◌-◌, ◌^◌, ◌≤◌, ◌<◌, Bool, true, false, cond, List, [], ◌∷◌, ◌++◌, ℤ, pos, ◌+ℤ◌, ◌*ℤ◌, length, map, refl, sym, ap, subst, ◌∙◌, arith}
use Rattle.std.specs.Prelude.{Option, Some, None, IfSome, option_map, ◌==◌, ◌-ℤ◌}
use Rattle.std.specs.List.{fold}
use Rattle.std.specs.Option.{option_and_then}
use Rattle.std.proofs.lemmas.Bool.Decides.{nat_tests}
use Rattle.std.proofs.lemmas.Int.{ints}
use Rattle.rsp_expr.specs.Aggregates.{numbers_of, total_of, sum_of, average_of}
use Rattle.rsp_expr.specs.Errors.{all_values, value_of_both}
use Rattle.rsp_expr.specs.Forms.{number_of}
use Rattle.rsp_expr.specs.Functions.{numeral_result}
use Rattle.rsp_expr.proofs.NumberRange.{number_of-small}
use Rattle.rsp_expr.proofs.SameAggregates.{taken_in_turn}
use Rattle.rsp_folds.specs.Copies.{copies}
use Rattle.rsp_multiset.proofs.Whole.{*ℤ-+ℤ}
use Rattle.rsp_number.specs.Numbers.{integer_result, quotient}
use Rattle.rsp_number.specs.Tallies.{Tally}
use Rattle.rsp_number.specs.TallyBounds.{IsTally, IsSmall}
use Rattle.rsp_number.specs.Totals.{units, integers_of, decimals_of, empty_tally, after_taking, after_giving, value_of_total}
use Rattle.rsp_number.specs.declared.number.Number.{Number}
use Rattle.rsp_number.specs.declared.number.Number.TheVariants.{Integer, Decimal}
use Rattle.rsp_number.proofs.Tallied.{tally-taken, tally-empty}
use Rattle.rsp_number.proofs.Tallying.{kinds-of}
use Rattle.rsp_terms.specs.declared.term.Term.{Term}
use Rattle.rsp_aggregates.specs.Sums.{mean, number_in, tally_with, tally_in, numberless, others_in, sum_aggregate, SumStands}
use Rattle.rsp_aggregates.proofs.Counted.{long-more}

-- ---- many copies at once

one-more : (u : ℤ) (n : ℕ) → (u *ℤ pos n) +ℤ (u *ℤ pos 1) ≡ u *ℤ pos (suc n)
one-more u n = sym (*ℤ-+ℤ u (pos n) (pos 1)) ∙ ap (λ k. u *ℤ k) (let more : pos n +ℤ pos 1 ≡ pos (suc n) = omega (arith, ints) in more)

added-later : (s a b : ℤ) → (s +ℤ a) +ℤ b ≡ s +ℤ (a +ℤ b)
added-later s a b = omega (arith, ints)

kinds-more : (number : Number) (n k : ℕ) → (k + integers_of number n) + integers_of number 1 ≡ k + integers_of number (suc n)
kinds-more (Integer i) n k = omega arith
kinds-more (Decimal d) n k = omega arith

decimals-more : (number : Number) (n k : ℕ) → (k + decimals_of number n) + decimals_of number 1 ≡ k + decimals_of number (suc n)
decimals-more (Integer i) n k = omega arith
decimals-more (Decimal d) n k = omega arith

taken-more : (tally : Tally) (number : Number) (n : ℕ) → after_taking (after_taking tally number n) number 1 ≡ after_taking tally number (suc n)
taken-more tally number n = λ i. record {
  sum = (added-later tally.sum (units number *ℤ pos n) (units number *ℤ pos 1) ∙ ap (λ k. tally.sum +ℤ k) (one-more (units number) n)) i;
  integers = kinds-more number n tally.integers i;
  decimals = decimals-more number n tally.decimals i;
}

nothing-taken : (tally : Tally) (number : Number) → tally ≡ after_taking tally number 0
nothing-taken tally number = λ i. record {
  sum = (no-more tally.sum (units number)) i;
  integers = (none number tally.integers) i;
  decimals = (no-decimals number tally.decimals) i;
}
  where
    no-more : (s u : ℤ) → s ≡ s +ℤ (u *ℤ pos 0)
    no-more s u = omega (arith, ints)

    none : (number : Number) (k : ℕ) → k ≡ k + integers_of number 0
    none (Integer i) k = omega arith
    none (Decimal d) k = omega arith

    no-decimals : (number : Number) (k : ℕ) → k ≡ k + decimals_of number 0
    no-decimals (Integer i) k = omega arith
    no-decimals (Decimal d) k = omega arith

pub tally-more : (n : ℕ) (value : Option Term) (values : List (Option Term))
    → tally_in (copies n value ++ values) ≡ tally_with (tally_in values) (number_in value) n
tally-more zero value values = by (number_in value)
  where
    by : (number : Option Number) → tally_in values ≡ tally_with (tally_in values) number 0
    by None = refl
    by (Some number) = nothing-taken (tally_in values) number
tally-more (suc n) value values = by (number_in value) (tally-more n value values)
  where
    by : (number : Option Number) → tally_in (copies n value ++ values) ≡ tally_with (tally_in values) number n
        → tally_with (tally_in (copies n value ++ values)) number 1 ≡ tally_with (tally_in values) number (suc n)
    by None rest = rest
    by (Some number) rest = ap (λ tally. after_taking tally number 1) rest ∙ taken-more (tally_in values) number n

pub others-more : (n : ℕ) (value : Option Term) (values : List (Option Term))
    → others_in (copies n value ++ values) ≡ others_in values + numberless (number_in value) n
others-more zero value values = by (number_in value)
  where
    by : (number : Option Number) → others_in values ≡ others_in values + numberless number 0
    by None = omega arith
    by (Some number) = omega arith
others-more (suc n) value values = by (number_in value) (others-more n value values)
  where
    by : (number : Option Number) → others_in (copies n value ++ values) ≡ others_in values + numberless number n
        → others_in (copies n value ++ values) + numberless number 1 ≡ others_in values + numberless number (suc n)
    by None rest = omega (arith, rest)
    by (Some number) rest = omega (arith, rest)

-- ---- each list of at most 2^32 values has a tally that a total can hold

pub all-counted : (values : List (Option Term)) → (tally_in values).integers + (tally_in values).decimals + others_in values ≡ length values
all-counted [] = refl
all-counted (value ∷ values) = by (number_in value) (all-counted values)
  where
    by : (number : Option Number) → (tally_in values).integers + (tally_in values).decimals + others_in values ≡ length values
        → (tally_with (tally_in values) number 1).integers + (tally_with (tally_in values) number 1).decimals
        + (others_in values + numberless number 1) ≡ suc (length values)
    by None rest = omega (arith, rest)
    by (Some number) rest = let kinds = kinds-of number 1 in omega (arith, rest, kinds)

pub in-small : (value : Option Term) → IfSome (number_in value) IsSmall
in-small None = tt
in-small (Some term) = number_of-small term

pub is-tally : (values : List (Option Term)) → length values ≤ 2 ^ 32 → IsTally (tally_in values)
is-tally [] short = tally-empty
is-tally (value ∷ values) short =
    by (number_in value) (in-small value) (is-tally values (omega (arith, short))) (all-counted values)
  where
    by : (number : Option Number) → IfSome number IsSmall → IsTally (tally_in values)
        → (tally_in values).integers + (tally_in values).decimals + others_in values ≡ length values
        → IsTally (tally_with (tally_in values) number 1)
    by None small rest counted = rest
    by (Some number) small rest counted = tally-taken (tally_in values) number 1 rest small (omega (arith, short, counted))

-- ---- given back is as if never taken

less-kind : (k x : ℕ) → (k + x) - x ≡ k
less-kind k x = omega arith

less-sum : (s x : ℤ) → (s +ℤ x) -ℤ x ≡ s
less-sum s x = omega (arith, ints)

pub undone : (tally : Tally) (number : Number) (n : ℕ) → after_giving (after_taking tally number n) number n ≡ tally
undone tally number n = λ i. record {
  sum = less-sum tally.sum (units number *ℤ pos n) i;
  integers = less-kind tally.integers (integers_of number n) i;
  decimals = less-kind tally.decimals (decimals_of number n) i;
}

-- ---- the sum of the numbers

late : (number : Number) (numbers : List Number) (tally : Tally)
    → fold (λ kept other. after_taking kept other 1) (after_taking tally number 1) numbers
    ≡ after_taking (fold (λ kept other. after_taking kept other 1) tally numbers) number 1
late number [] tally = refl
late number (other ∷ numbers) tally =
    ap (λ kept. fold (λ before next. after_taking before next 1) kept numbers) (taken_in_turn tally number other)
    ∙ late number numbers (after_taking tally other 1)

-- the numbers of values of which each has one
pub record AllNumbers (values : List (Option Term)) : Type 0 where
  pub numbers : List Number
  pub all : numbers_of values ≡ Some numbers
  pub total : total_of numbers ≡ tally_in values
  pub many : length numbers ≡ (tally_in values).integers + (tally_in values).decimals

pub all-numbers : (values : List (Option Term)) → others_in values ≡ 0 → AllNumbers values
all-numbers [] none = record { numbers = []; all = refl; total = refl; many = refl }
all-numbers (value ∷ values) none =
    by (number_in value) refl none (all-numbers values (let fewer : others_in values ≡ 0 = omega (arith, none) in fewer))
  where
    by : (found : Option Number) → number_in value ≡ found → others_in values + numberless found 1 ≡ 0 → AllNumbers values
        → AllNumbers (value ∷ values)
    by None is none rest = absurd (omega (arith, none))
    by (Some number) is none rest = record {
      numbers = number ∷ rest.numbers;
      all = (λ i. all_values (is i ∷ map (option_and_then number_of) values)) ∙ ap (option_map (λ others. number ∷ others)) rest.all;
      total = late number rest.numbers empty_tally ∙ ap (λ tally. after_taking tally number 1) rest.total
          ∙ ap (λ found. tally_with (tally_in values) found 1) (sym is);
      many = (let kinds = kinds-of number 1 in let more = rest.many in
          let sum : suc (length rest.numbers) ≡ (after_taking (tally_in values) number 1).integers + (after_taking (tally_in values) number 1).decimals
          = omega (arith, kinds, more) in sum)
          ∙ ap (λ found. (tally_with (tally_in values) found 1).integers + (tally_with (tally_in values) found 1).decimals) (sym is);
    }

pub other-spoils : (f : List Number → Option Number) (values : List (Option Term)) (n : ℕ) → others_in values ≡ suc n
    → option_and_then f (numbers_of values) ≡ None
other-spoils f [] n some = absurd (omega (arith, some))
other-spoils f (value ∷ values) n some = by (number_in value) refl some (other-spoils first values)
  where
    first : List Number → Option Number
    first numbers = Some (Integer (pos 0))

    lost : (o : Option (List Number)) (number : Number) → option_and_then first o ≡ None
        → option_and_then f (option_map (λ others. number ∷ others) o) ≡ None
    lost None number is = refl
    lost (Some others) number is = cc

    by : (found : Option Number) → number_in value ≡ found → others_in values + numberless found 1 ≡ suc n
        → ((m : ℕ) → others_in values ≡ suc m → option_and_then first (numbers_of values) ≡ None)
        → option_and_then f (numbers_of (value ∷ values)) ≡ None
    by None is more rest = λ i. option_and_then f (all_values (is i ∷ map (option_and_then number_of) values))
    by (Some number) is more rest =
        (λ i. option_and_then f (all_values (is i ∷ map (option_and_then number_of) values)))
        ∙ lost (numbers_of values) number (rest n (omega (arith, more)))

-- ---- results

module _ (tally : Tally) (numbers others : ℕ) (values : List (Option Term)) where
  whole-sum : SumStands tally numbers others values → others ≡ 0 → numeral_result (value_of_total tally) ≡ sum_aggregate false values
  whole-sum stands none =
      let found : AllNumbers values = all-numbers values (sym stands.failed ∙ none) in
      ap (λ t. numeral_result (value_of_total t)) (stands.sum ∙ sym found.total)
      ∙ ap (λ o. numeral_result (option_and_then sum_of o)) (sym found.all)

  mean-of : (list : List Number) → tally ≡ total_of list → numbers ≡ length list → mean tally numbers ≡ average_of list
  mean-of [] is many = ap (λ n. mean tally n) many
  mean-of (number ∷ list) is many =
      let some : (suc (length list) == 0) ≡ false = grind (arith, nat_tests) in
      (λ i. mean (is i) (many i))
      ∙ ap (λ b. cond b (integer_result (pos 0)) (value_of_both quotient (sum_of (number ∷ list)) (integer_result (pos (length (number ∷ list)))))) some

  whole-mean : SumStands tally numbers others values → others ≡ 0 → numeral_result (mean tally numbers) ≡ sum_aggregate true values
  whole-mean stands none =
      let found : AllNumbers values = all-numbers values (sym stands.failed ∙ none) in
      ap numeral_result (mean-of found.numbers (stands.sum ∙ sym found.total)
      (stands.counted ∙ ap (λ t. t.integers + t.decimals) stands.sum ∙ sym found.many))
      ∙ ap (λ o. numeral_result (option_and_then average_of o)) (sym found.all)

  pub whole-result : (average : Bool) → SumStands tally numbers others values → others ≡ 0
      → numeral_result (cond average (mean tally numbers) (value_of_total tally)) ≡ sum_aggregate average values
  whole-result true stands none = whole-mean stands none
  whole-result false stands none = whole-sum stands none

  spoilt : (average : Bool) (n : ℕ) → others_in values ≡ suc n → None ≡ sum_aggregate average values
  spoilt true n some = ap numeral_result (sym (other-spoils average_of values n some))
  spoilt false n some = ap numeral_result (sym (other-spoils sum_of values n some))

  pub no-result : (average : Bool) → SumStands tally numbers others values → 0 < others → None ≡ sum_aggregate average values
  no-result average stands some = spoilt average (others - 1) (sym stands.failed ∙ (let more : others ≡ suc (others - 1) = omega (arith, some) in more))

-- ---- taking and giving

module _ (tally : Tally) (numbers others n : ℕ) (value : Option Term) (values : List (Option Term)) where
  kinds-with : (number : Number) → numbers ≡ tally.integers + tally.decimals
      → numbers + n ≡ (after_taking tally number n).integers + (after_taking tally number n).decimals
  kinds-with number is = let kinds = kinds-of number n in omega (arith, kinds, is)

  pub number-room : SumStands tally numbers others values → length values + n ≤ 4294967296 → tally.integers + tally.decimals + n ≤ 4294967296
  number-room stands room =
      let counted = all-counted values in
      let same = ap (λ t. t.integers + t.decimals) stands.sum in
      omega (arith, counted, same, room)

  pub numbers-room : SumStands tally numbers others values → length values + n ≤ 4294967296 → numbers + n ≤ 4294967296
  numbers-room stands room = let is = stands.counted in let room' = number-room stands room in omega (arith, is, room')

  pub others-room : SumStands tally numbers others values → length values + n ≤ 4294967296 → others + n ≤ 4294967296
  others-room stands room =
      let counted = all-counted values in let is = stands.failed in omega (arith, counted, is, room)

  pub number-taken : (number : Number) → number_in value ≡ Some number → SumStands tally numbers others values → length values + n ≤ 4294967296
      → SumStands (after_taking tally number n) (numbers + n) others (copies n value ++ values)
  number-taken number is stands room = record {
    sum = ap (λ t. after_taking t number n) stands.sum ∙ sym (tally-more n value values ∙ ap (λ o. tally_with (tally_in values) o n) is);
    counted = kinds-with number stands.counted;
    failed = stands.failed ∙ sym (others-more n value values ∙ ap (λ o. others_in values + numberless o n) is ∙ add-none (others_in values));
    short = let long = long-more n value values in omega (arith, long, room);
  }
    where
      add-none : (k : ℕ) → k + 0 ≡ k
      add-none k = omega arith

  pub other-taken : number_in value ≡ None → SumStands tally numbers others values → length values + n ≤ 4294967296
      → SumStands tally numbers (others + n) (copies n value ++ values)
  other-taken is stands room = record {
    sum = stands.sum ∙ sym (tally-more n value values ∙ ap (λ o. tally_with (tally_in values) o n) is);
    counted = stands.counted;
    failed = ap (λ k. k + n) stands.failed ∙ sym (others-more n value values ∙ ap (λ o. others_in values + numberless o n) is);
    short = let long = long-more n value values in omega (arith, long, room);
  }

  -- what there was before the copies came
  pub was : (number : Number) → number_in value ≡ Some number → SumStands tally numbers others (copies n value ++ values)
      → tally ≡ after_taking (tally_in values) number n
  was number is stands = stands.sum ∙ tally-more n value values ∙ ap (λ o. tally_with (tally_in values) o n) is

  rest-short : SumStands tally numbers others (copies n value ++ values) → length values ≤ 4294967296
  rest-short stands = let long = long-more n value values in let short = stands.short in omega (arith, long, short)

  pub back : (number : Number) → number_in value ≡ Some number → SumStands tally numbers others (copies n value ++ values)
      → after_giving tally number n ≡ tally_in values
  back number is stands = ap (λ t. after_giving t number n) (was number is stands) ∙ undone (tally_in values) number n

  pub back-tally : (number : Number) → number_in value ≡ Some number → SumStands tally numbers others (copies n value ++ values)
      → IsTally (after_giving tally number n)
  back-tally number is stands = subst IsTally (sym (back number is stands)) (is-tally values (rest-short stands))

  pub integers-enough : (number : Number) → number_in value ≡ Some number → SumStands tally numbers others (copies n value ++ values)
      → integers_of number n ≤ tally.integers
  integers-enough number is stands = let same = ap (λ t. t.integers) (was number is stands) in omega (arith, same)

  pub decimals-enough : (number : Number) → number_in value ≡ Some number → SumStands tally numbers others (copies n value ++ values)
      → decimals_of number n ≤ tally.decimals
  decimals-enough number is stands = let same = ap (λ t. t.decimals) (was number is stands) in omega (arith, same)

  pub numbers-enough : (number : Number) → number_in value ≡ Some number → SumStands tally numbers others (copies n value ++ values)
      → n ≤ numbers
  numbers-enough number is stands =
      let kinds = kinds-of number n in
      let integers = integers-enough number is stands in
      let decimals = decimals-enough number is stands in
      let counted = stands.counted in
      omega (arith, kinds, integers, decimals, counted)

  pub number-given : (number : Number) → number_in value ≡ Some number → SumStands tally numbers others (copies n value ++ values)
      → SumStands (after_giving tally number n) (numbers - n) others values
  number-given number is stands = record {
    sum = back number is stands;
    counted =
        let kinds = kinds-of number n in
        let integers = integers-enough number is stands in
        let decimals = decimals-enough number is stands in
        let counted = stands.counted in
        omega (arith, kinds, integers, decimals, counted);
    failed = stands.failed ∙ others-more n value values ∙ ap (λ o. others_in values + numberless o n) is ∙ add-none (others_in values);
    short = rest-short stands;
  }
    where
      add-none : (k : ℕ) → k + 0 ≡ k
      add-none k = omega arith

  others-were : number_in value ≡ None → SumStands tally numbers others (copies n value ++ values) → others ≡ others_in values + n
  others-were is stands = stands.failed ∙ others-more n value values ∙ ap (λ o. others_in values + numberless o n) is

  pub others-enough : number_in value ≡ None → SumStands tally numbers others (copies n value ++ values) → n ≤ others
  others-enough is stands = let were = others-were is stands in omega (arith, were)

  pub other-given : number_in value ≡ None → SumStands tally numbers others (copies n value ++ values) → SumStands tally numbers (others - n) values
  other-given is stands = record {
    sum = stands.sum ∙ tally-more n value values ∙ ap (λ o. tally_with (tally_in values) o n) is;
    counted = stands.counted;
    failed = let were = others-were is stands in omega (arith, were);
    short = rest-short stands;
  }
