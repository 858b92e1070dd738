-- What the words of a policy ask, named one after the other or each by itself.
use Rattle.std.proofs.Common.{◌≡◌, ◌+◌, ℕ, Bool, true, false, cond, ◌&&◌, ◌||◌, nat_lt, List, [], ◌∷◌, Option, None, Some, is_some, refl, sym, ◌∙◌, ap, arith}
use Rattle.std.specs.List.{fold}
use Rattle.std.specs.Option.{option_or}
use Rattle.std.proofs.lemmas.Bool.Decides.{nat_tests}
use Rattle.std.proofs.lemmas.List.Sums.{sum_by-cons}
use Rattle.rsp_report.specs.declared.words.Strategy.{Strategy}
use Rattle.rsp_report.specs.declared.words.Strategy.TheVariants.{Close, Change, NonEmpty, Every}
use Rattle.rsp_report.specs.declared.words.PolicyWords.{PolicyWords}
use Rattle.rsp_report.specs.declared.words.PolicyWords.TheVariants as words
use Rattle.rsp_report.specs.declared.chosen.Chosen.{Chosen}
use Rattle.rsp_report.specs.Policies.{choice_of, is_mixed, same_kind, with_strategy}
use Rattle.rsp_report.specs.Named.{asked_by, count_of, first_period, is_named, is_named_twice, mixed_by}

or_true : (b : Bool) → (b || true) ≡ true
or_true true = refl
or_true false = refl

or_false : (b : Bool) → (b || false) ≡ b
or_false true = refl
or_false false = refl

counted_or : (b : Bool) (n m : ℕ) → n ≡ cond b 1 0 + m → nat_lt 0 n ≡ (b || nat_lt 0 m)
counted_or true n m is = grind (arith, nat_tests, is)
counted_or false n m is = ap (λ k. nat_lt 0 k) (omega (arith, is))

-- a strategy in front is named, or what is behind names it
named_cons : (kind s : Strategy) (xs : List Strategy) → is_named kind (s ∷ xs) ≡ (same_kind kind s || is_named kind xs)
named_cons kind s xs =
    let counted = sum_by-cons (λ x. cond (same_kind kind x) 1 0) s xs in
    counted_or (same_kind kind s) (count_of kind (s ∷ xs)) (count_of kind xs) (omega (arith, counted))

or_none : {A : Type 0} (o : Option A) → option_or o None ≡ o
or_none None = refl
or_none (Some x) = refl

or_three : {A : Type 0} (o p q : Option A) → option_or (option_or o p) q ≡ option_or o (option_or p q)
or_three None p q = refl
or_three (Some x) p q = refl

-- a strategy that isn't the one in front
passed : (b : Bool) (kind s : Strategy) (xs : List Strategy) → same_kind kind s ≡ false
    → (b || is_named kind xs) ≡ (b || is_named kind (s ∷ xs))
passed b kind s xs other = ap (λ n. b || n) (sym (named_cons kind s xs ∙ ap (λ t. t || is_named kind xs) other))

met : (b : Bool) (kind s : Strategy) (xs : List Strategy) → same_kind kind s ≡ true → true ≡ (b || is_named kind (s ∷ xs))
met b kind s xs same = sym (ap (λ n. b || n) (named_cons kind s xs ∙ ap (λ t. t || is_named kind xs) same) ∙ or_true b)

-- what is asked once these strategies are named too
abbrev with_all : Chosen → List Strategy → Chosen
with_all c xs = record {
  close = c.close || is_named Close xs;
  change = c.change || is_named Change xs;
  nonempty = c.nonempty || is_named NonEmpty xs;
  period = option_or c.period (first_period xs);
  tuple = c.tuple;
}

fold_is : (xs : List Strategy) (c : Chosen) → fold with_strategy c xs ≡ with_all c xs
fold_is [] c = λ i. record {
  close = sym (or_false c.close) i;
  change = sym (or_false c.change) i;
  nonempty = sym (or_false c.nonempty) i;
  period = sym (or_none c.period) i;
  tuple = c.tuple;
}
fold_is (Close ∷ xs) c = fold_is xs (with_strategy c Close) ∙ (λ i. record {
  close = met c.close Close Close xs refl i;
  change = passed c.change Change Close xs refl i;
  nonempty = passed c.nonempty NonEmpty Close xs refl i;
  period = option_or c.period (first_period xs);
  tuple = c.tuple;
})
fold_is (Change ∷ xs) c = fold_is xs (with_strategy c Change) ∙ (λ i. record {
  close = passed c.close Close Change xs refl i;
  change = met c.change Change Change xs refl i;
  nonempty = passed c.nonempty NonEmpty Change xs refl i;
  period = option_or c.period (first_period xs);
  tuple = c.tuple;
})
fold_is (NonEmpty ∷ xs) c = fold_is xs (with_strategy c NonEmpty) ∙ (λ i. record {
  close = passed c.close Close NonEmpty xs refl i;
  change = passed c.change Change NonEmpty xs refl i;
  nonempty = met c.nonempty NonEmpty NonEmpty xs refl i;
  period = option_or c.period (first_period xs);
  tuple = c.tuple;
})
fold_is (Every p ∷ xs) c = fold_is xs (with_strategy c (Every p)) ∙ (λ i. record {
  close = passed c.close Close (Every p) xs refl i;
  change = passed c.change Change (Every p) xs refl i;
  nonempty = passed c.nonempty NonEmpty (Every p) xs refl i;
  period = or_three c.period (Some p) (first_period xs) i;
  tuple = c.tuple;
})

pub choice_is : (asked : PolicyWords) → choice_of asked ≡ asked_by asked
choice_is words.Absent = refl
choice_is words.Csparql = refl
choice_is words.Cqels = refl
choice_is (words.Listed strategies tuple) =
    fold_is strategies (record { close = false; change = false; nonempty = false; period = None; tuple = tuple })

-- a period is asked exactly where EVERY is named
period_named : (xs : List Strategy) → is_some (first_period xs) ≡ is_named (Every 0) xs
period_named [] = refl
period_named (Every p ∷ xs) = sym (named_cons (Every 0) (Every p) xs)
period_named (Close ∷ xs) = period_named xs ∙ sym (named_cons (Every 0) Close xs)
period_named (Change ∷ xs) = period_named xs ∙ sym (named_cons (Every 0) Change xs)
period_named (NonEmpty ∷ xs) = period_named xs ∙ sym (named_cons (Every 0) NonEmpty xs)

pub mixed_is : (asked : PolicyWords) → is_mixed asked ≡ mixed_by asked
mixed_is words.Absent = refl
mixed_is words.Csparql = refl
mixed_is words.Cqels = refl
mixed_is (words.Listed strategies tuple) = λ i.
    (is_named_twice Close strategies || (is_named_twice Change strategies
    || (is_named_twice NonEmpty strategies || or_false (is_named_twice (Every 0) strategies) i)))
    || (tuple && ((choice_is (words.Listed strategies tuple) i).close
    || (ap (λ (c : Chosen). is_some c.period) (choice_is (words.Listed strategies tuple)) ∙ period_named strategies) i))
