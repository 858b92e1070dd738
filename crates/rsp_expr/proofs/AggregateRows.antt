-- Worked rows: aggregates.
use Rattle.std.specs.Prelude.{◌≡◌, ℕ, Some, None, true, Option, List, [], ◌∷◌, codes, refl}
use Rattle.std.specs.Fmt.{digits}
use Rattle.rsp_number.specs.Decimals.{greatest}
use Rattle.rsp_terms.specs.declared.term.Term.{Term}
use Rattle.rsp_terms.specs.declared.term.Term.TheVariants.{Iri, Literal}
use Rattle.rsp_expr.specs.Aggregates.{aggregate_of, counted_values, value_over}
use Rattle.rsp_functions.specs.declared.aggregate.Kind.TheVariants.{Count, Sum, Avg, Min, Max}

abbrev integer : List ℕ → Option Term
integer text = Some (Literal text (codes "http://www.w3.org/2001/XMLSchema#integer"))

abbrev decimal : List ℕ → Option Term
decimal text = Some (Literal text (codes "http://www.w3.org/2001/XMLSchema#decimal"))

abbrev some : List (Option Term)
some = integer (codes "2") ∷ decimal (codes "0.5") ∷ integer (codes "2") ∷ []

of_some : (aggregate_of Count some ∷ aggregate_of Sum some ∷ aggregate_of Avg some ∷ aggregate_of Min some ∷ aggregate_of Max some ∷ [])
    ≡ integer (codes "3") ∷ decimal (codes "4.5") ∷ decimal (codes "1.5") ∷ decimal (codes "0.5") ∷ integer (codes "2") ∷ []
unfolding digits greatest
of_some = refl

-- each term once
of_distinct : (aggregate_of Count (counted_values true some) ∷ aggregate_of Sum (counted_values true some) ∷ [])
    ≡ integer (codes "2") ∷ decimal (codes "2.5") ∷ []
unfolding digits greatest
of_distinct = refl

of_none : (aggregate_of Count [] ∷ aggregate_of Sum [] ∷ aggregate_of Avg [] ∷ aggregate_of Min [] ∷ aggregate_of Max [] ∷ [])
    ≡ integer (codes "0") ∷ integer (codes "0") ∷ integer (codes "0") ∷ None ∷ None ∷ []
unfolding digits
of_none = refl

-- an error isn't counted, and makes the others errors
abbrev broken : List (Option Term)
broken = integer (codes "2") ∷ None ∷ []

of_errors : (aggregate_of Count broken ∷ aggregate_of Sum broken ∷ aggregate_of Avg broken ∷ aggregate_of Min broken ∷ aggregate_of Max broken ∷ [])
    ≡ integer (codes "1") ∷ None ∷ None ∷ None ∷ None ∷ []
unfolding digits
of_errors = refl

-- a term without a number: no sum, but a least and a greatest
of_mixed : (aggregate_of Sum (integer (codes "2") ∷ Some (Iri (codes "a:1")) ∷ []) ∷ aggregate_of Min (integer (codes "2") ∷ Some (Iri (codes "a:1")) ∷ []) ∷ [])
    ≡ None ∷ Some (Iri (codes "a:1")) ∷ []
of_mixed = refl

-- COUNT(*) counts rows
of_rows : value_over None Count true ((None ∷ []) ∷ (None ∷ []) ∷ []) ≡ integer (codes "2")
unfolding digits
of_rows = refl
