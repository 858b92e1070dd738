-- Before a query's first report no row has gone.
use Rattle.std.specs.Prelude.{◌≡◌, refl, List, [], ◌∷◌}
use Rattle.rsp_multiset.specs.Rows.{Cells, row_eq}
use Rattle.rsp_terms.specs.declared.term.Term.{Term}
use Rattle.rsp_terms.specs.Same.{term_eq}
use Rattle.rsp_report.specs.declared.operator.Operator.TheVariants.{Dstream}
use Rattle.rsp_streams_out.specs.Streams.{less, reported}

-- nothing less something is nothing
less_nothing : (ys : List (Cells Term)) → less (row_eq term_eq) [] ys ≡ []
less_nothing [] = refl
less_nothing (y ∷ ys) = less_nothing ys

pub none_gone : (present : List (Cells Term)) → reported Dstream [] present ≡ []
none_gone present = rw (less_nothing present) refl
