-- What a policy asks whose words aren't mixed.
use Rattle.std.proofs.Common.{◌≡◌, ℕ, ◌≤◌, Bool, true, false, true≢false, cond, ◌&&◌, ◌||◌, List, [], ◌∷◌, None, refl, sym, subst, ◌∙◌, ◌<◌, arith}
use Rattle.std.specs.Option.{ForSome}
use Rattle.std.proofs.lemmas.Bool.{ltb-false}
use Rattle.std.proofs.lemmas.List.Sums.{sum_by-cons}
use Rattle.rsp_report.specs.declared.words.Strategy.{Strategy}
use Rattle.rsp_report.specs.declared.words.Strategy.TheVariants.{Close, Change, NonEmpty, Every}
use Rattle.rsp_report.specs.declared.words.PolicyWords.{PolicyWords}
use Rattle.rsp_report.specs.declared.words.PolicyWords.TheVariants as words
use Rattle.rsp_report.specs.Policies.{choice_of, is_mixed, same_kind}
use Rattle.rsp_report.specs.Named.{asked_by, mixed_by, count_of, first_period, is_named}
use Rattle.rsp_report.specs.declared.chosen.Chosen.{Chosen}
use Rattle.rsp_report.proofs.PolicyLaws.{choice_is, mixed_is}
use Rattle.rsp_syntax.specs.Periods.{HasPeriods}
use Rattle.rsp_engine.specs.Watching.{IsPolicy}

or_none : (a b : Bool) → (a || b) ≡ false → (a ≡ false) × (b ≡ false)
or_none true b h = absurd (true≢false h)
or_none false b h = (refl, h)

and_none : (a b : Bool) → (a && b) ≡ false → a ≡ true → b ≡ false
and_none true b h is = h
and_none false b h is = absurd (true≢false (sym is))

-- a list that begins with EVERY names it
named_first : (period : ℕ) (rest : List Strategy) → is_named (Every 0) (Every period ∷ rest) ≡ false → ⊥
named_first period rest none =
    let counted = sum_by-cons (λ x. cond (same_kind (Every 0) x) 1 0) (Every period) rest in
    let none_left : count_of (Every 0) (Every period ∷ rest) ≤ 0 = ltb-false 0 (count_of (Every 0) (Every period ∷ rest)) none in
    omega (arith, counted)

no_period : (strategies : List Strategy) → is_named (Every 0) strategies ≡ false → first_period strategies ≡ None
no_period [] none = refl
no_period (Every period ∷ rest) none = absurd (named_first period rest none)
no_period (Close ∷ rest) none = no_period rest none
no_period (Change ∷ rest) none = no_period rest none
no_period (NonEmpty ∷ rest) none = no_period rest none

policy_by : (asked : PolicyWords) → mixed_by asked ≡ false → ForSome (asked_by asked).period (λ period. 0 < period)
    → IsPolicy (asked_by asked)
policy_by words.Absent clear periods =
    record { period = periods; close_on_items = λ h. absurd (true≢false (sym h)); period_on_items = λ h. refl }
policy_by words.Csparql clear periods =
    record { period = periods; close_on_items = λ h. absurd (true≢false (sym h)); period_on_items = λ h. refl }
policy_by words.Cqels clear periods = record { period = periods; close_on_items = λ h. refl; period_on_items = λ h. refl }
policy_by (words.Listed strategies tuple) clear periods =
    let mixed = or_none _ (tuple && (is_named Close strategies || is_named (Every 0) strategies)) clear in
    record {
      period = periods;
      close_on_items = λ h. (or_none (is_named Close strategies) (is_named (Every 0) strategies) (and_none tuple _ mixed.1 h)).0;
      period_on_items = λ h. no_period strategies (or_none (is_named Close strategies) (is_named (Every 0) strategies) (and_none tuple _ mixed.1 h)).1;
    }

pub is_policy : (asked : PolicyWords) → is_mixed asked ≡ false → HasPeriods asked → IsPolicy (choice_of asked)
is_policy asked clear periods =
    subst IsPolicy (sym (choice_is asked))
    (policy_by asked (sym (mixed_is asked) ∙ clear)
    (subst (λ (c : Chosen). ForSome c.period (λ period. 0 < period)) (choice_is asked) periods))

pub not_mixed : (b : Bool) → (b ≡ true → false ≡ true) → b ≡ false
not_mixed true never = sym (never refl)
not_mixed false never = refl
