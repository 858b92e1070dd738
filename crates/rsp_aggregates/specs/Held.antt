-- Words of the way: how often each value is in, and whether a value comes or goes.
use Rattle.std.specs.Prelude.{◌≡◌, ℕ, ◌≤◌, Bool, true, false, not, List, length, Option, None, Some, ℤ, pos}
use Rattle.std.specs.List.{list_any}
use Rattle.std.specs.Option.{option_eq}
use Rattle.std.proofs.Common.{◌∙◌, subst}
use Rattle.rsp_spec.specs.Limits.{most_counted}
use Rattle.rsp_multiset.specs.RowSame.{cell_decides}
use Rattle.rsp_multiset.specs.Weights.{weight, times, IsSameMultiset}
use Rattle.rsp_multiset.proofs.Linear.{length-same}
use Rattle.rsp_terms.specs.declared.term.Term.{Term}
use Rattle.rsp_terms.specs.Same.{term_eq, term_same}

-- so many errors, and each term as often as its entry says, are the values
pub record HoldsValues (errors : ℕ) (terms : List (Term × ℤ)) (values : List (Option Term)) : Type 0 where
  pub errors_in : pos errors ≡ times (option_eq term_eq) values None
  pub terms_in : (term : Term) → weight term_eq terms term ≡ times (option_eq term_eq) values (Some term)
  pub short : length values ≤ most_counted

abbrev pub is_in : Option Term → List (Option Term) → Bool
is_in value values = list_any (option_eq term_eq value) values

abbrev pub differ : Bool → Bool → Bool
differ true after = not after
differ false after = after

pub short_alike : (values others : List (Option Term)) → IsSameMultiset (option_eq term_eq) values others → length values ≤ most_counted
    → length others ≤ most_counted
short_alike values others same short =
    subst (λ n. n ≤ most_counted) (length-same (cell_decides term_same) values others same) short

pub holds_alike : (errors : ℕ) (terms : List (Term × ℤ)) (values others : List (Option Term))
    → IsSameMultiset (option_eq term_eq) values others → HoldsValues errors terms values → HoldsValues errors terms others
holds_alike errors terms values others same holds = record {
  errors_in = holds.errors_in ∙ same None;
  terms_in = λ term. holds.terms_in term ∙ same (Some term);
  short = short_alike values others same holds.short;
}
