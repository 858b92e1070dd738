-- The keys of the terms that are in, and the first and the last of them.
use Rattle.std.proofs.Common.{◌≡◌, ℕ, Bool, true, false, true≢false, cond, not, ◌||◌, ◌&&◌, List, [], ◌∷◌, ◌++◌, ℤ, length, refl, sym, ap, ◌∙◌, arith}
use Rattle.std.specs.Prelude.{Option, Some, None}
use Rattle.std.specs.BTreeSet.{BTreeSet, contains}
use Rattle.std.specs.List.{list_any}
use Rattle.std.specs.Option.{option_and_then, option_eq}
use Rattle.std.specs.Ordering.{is_eq}
use Rattle.rsp_expr.specs.Aggregates.{least_of, greatest_of}
use Rattle.rsp_expr.specs.Errors.{all_values}
use Rattle.rsp_expr.specs.Order.{term_order}
use Rattle.rsp_expr.proofs.TermOrder.{term_order_total, same_in_order}
use Rattle.rsp_folds.specs.Copies.{copies}
use Rattle.rsp_multiset.specs.RowSame.{cell_decides}
use Rattle.rsp_multiset.proofs.Linear.{itself, turned}
use Rattle.rsp_operands.specs.Keys.{terms_tied}
use Rattle.rsp_terms.specs.declared.term.Term.{Term}
use Rattle.rsp_terms.specs.Same.{term_eq, term_same}
use Rattle.rsp_aggregates.specs.Held.{HoldsValues, is_in, differ}
use Rattle.rsp_aggregates.specs.Ordered.{extreme_aggregate, ExtremeStands, IsEnd}
use Rattle.rsp_aggregates.proofs.Copying.{any-still, any-come, any-gone}
use Rattle.rsp_aggregates.proofs.Ends.{reduced-end, least-chooses, greatest-chooses, AllTerms, all-terms, error-spoils}

-- ---- one key comes or goes

tied-turned : (key term : Term) → is_eq (term_order key term) ≡ term_eq term key
tied-turned key term = sym (terms_tied key term) ∙ turned term_same key term

pub key-put : (key term : Term) (before after : Bool) → after ≡ cond (is_eq (term_order key term)) true before
    → after ≡ (term_eq term key || before)
key-put key term before after is = is ∙ by (is_eq (term_order key term)) (term_eq term key) (tied-turned key term)
  where
    by : (b c : Bool) → b ≡ c → cond b true before ≡ (c || before)
    by true true alike = refl
    by true false alike = absurd (true≢false alike)
    by false true alike = absurd (true≢false (sym alike))
    by false false alike = refl

pub key-dropped : (key term : Term) (before after : Bool) → after ≡ cond (is_eq (term_order key term)) false before
    → after ≡ (not (term_eq term key) && before)
key-dropped key term before after is = is ∙ by (is_eq (term_order key term)) (term_eq term key) (tied-turned key term)
  where
    by : (b c : Bool) → b ≡ c → cond b false before ≡ (not c && before)
    by true true alike = refl
    by true false alike = absurd (true≢false alike)
    by false true alike = absurd (true≢false (sym alike))
    by false false alike = refl

-- ---- values come or go

module _ (errors errors' : ℕ) (terms terms' : List (Term × ℤ)) (keys keys' : BTreeSet Term) (n : ℕ) (value : Option Term) (values : List (Option Term)) where
  abbrev Crosses : Bool → Type 0
  Crosses b = differ (is_in value values) (is_in value (copies n value ++ values)) ≡ b

  pub first-taken : Crosses true → ((term : Term) → contains term_order keys' term ≡ (option_eq term_eq (Some term) value || contains term_order keys term))
      → HoldsValues errors' terms' (copies n value ++ values) → ExtremeStands errors terms keys values → ExtremeStands errors' terms' keys' (copies n value ++ values)
  first-taken crosses put holds stands = record {
    holds = holds;
    keyed = λ term. put term ∙ ap (λ b. option_eq term_eq (Some term) value || b) (stands.keyed term)
        ∙ sym (any-come (cell_decides term_same) n value values crosses (Some term));
  }

  pub more-taken : Crosses false → HoldsValues errors' terms' (copies n value ++ values) → ExtremeStands errors terms keys values
      → ExtremeStands errors' terms' keys (copies n value ++ values)
  more-taken crosses holds stands = record {
    holds = holds;
    keyed = λ term. stands.keyed term ∙ sym (any-still (cell_decides term_same) n value values crosses (Some term));
  }

  pub last-given : Crosses true → ((term : Term) → contains term_order keys' term ≡ (not (option_eq term_eq (Some term) value) && contains term_order keys term))
      → HoldsValues errors' terms' values → ExtremeStands errors terms keys (copies n value ++ values) → ExtremeStands errors' terms' keys' values
  last-given crosses dropped holds stands = record {
    holds = holds;
    keyed = λ term. dropped term ∙ ap (λ b. not (option_eq term_eq (Some term) value) && b) (stands.keyed term)
        ∙ sym (any-gone (cell_decides term_same) n value values crosses (Some term));
  }

  pub some-given : Crosses false → HoldsValues errors' terms' values → ExtremeStands errors terms keys (copies n value ++ values)
      → ExtremeStands errors' terms' keys values
  some-given crosses holds stands = record {
    holds = holds;
    keyed = λ term. stands.keyed term ∙ any-still (cell_decides term_same) n value values crosses (Some term);
  }

-- ---- results

module _ (errors : ℕ) (terms : List (Term × ℤ)) (keys : BTreeSet Term) (values : List (Option Term)) where
  pub spoilt-extreme : (greatest : Bool) → is_in None values ≡ true → None ≡ extreme_aggregate greatest values
  spoilt-extreme true there = sym (error-spoils greatest_of values there)
  spoilt-extreme false there = sym (error-spoils least_of values there)

  module _ (none : is_in None values ≡ false) (stands : ExtremeStands errors terms keys values) where
    all : AllTerms values
    all = all-terms values none

    kept-there : (term : Term) → contains term_order keys term ≡ list_any (term_eq term) all.terms
    kept-there term = stands.keyed term ∙ sym (all.found term)

    pub end-extreme : (greatest : Bool) (key : Term) → IsEnd greatest keys key → Some key ≡ extreme_aggregate greatest values
    end-extreme true key end =
        sym (reduced-end term_same (greatest-chooses term_order_total same_in_order) key all.terms (sym (kept-there key) ∙ end.there)
        (λ term found. end.extreme term (kept-there term ∙ found)))
        ∙ ap (option_and_then greatest_of) (sym all.all)
    end-extreme false key end =
        sym (reduced-end term_same (least-chooses term_order_total same_in_order) key all.terms (sym (kept-there key) ∙ end.there)
        (λ term found. end.extreme term (kept-there term ∙ found)))
        ∙ ap (option_and_then least_of) (sym all.all)

    empty-list : (list : List Term) → ((term : Term) → list_any (term_eq term) list ≡ false) → list ≡ []
    empty-list [] absent = refl
    empty-list (term ∷ list) absent =
        absurd (true≢false (ap (λ b. b || list_any (term_eq term) list) (sym (itself term_same term)) ∙ absent term))

    no-terms : ((term : Term) → contains term_order keys term ≡ false) → all_values values ≡ Some []
    no-terms absent = all.all ∙ ap Some (empty-list all.terms (λ term. sym (kept-there term) ∙ absent term))

    pub no-extreme : (greatest : Bool) → ((term : Term) → contains term_order keys term ≡ false) → None ≡ extreme_aggregate greatest values
    no-extreme true absent = ap (option_and_then greatest_of) (sym (no-terms absent))
    no-extreme false absent = ap (option_and_then least_of) (sym (no-terms absent))

-- ---- ends

pub empty-contains : (keys : BTreeSet Term) → length keys.keys ≡ 0 → (term : Term) → contains term_order keys term ≡ false
empty-contains keys none term = by keys.keys none
  where
    by : (list : List Term) → length list ≡ 0 → list_any (λ k. is_eq (term_order term k)) list ≡ false
    by [] none = refl
    by (k ∷ list) none = absurd (omega (arith, none))
