use Rattle.std.proofs.Common.{◌≡◌, ◌+ℤ◌, List, Option, drop}
use Rattle.rsp_multiset.specs.Rows.{row_eq}
use Rattle.rsp_multiset.specs.Weights.{times, weight}
use Rattle.rsp_terms.specs.declared.term.Term.{Term}
use Rattle.rsp_terms.specs.Same.{term_eq}
use Rattle.rsp_streams_out.proofs.listing.rows_of.Given as goal

abbrev pub invariant-loop-index : goal.invariant-loop-index
invariant-loop-index l = (q : List (Option Term)) → times (row_eq term_eq) l.rows.items q +ℤ weight (row_eq term_eq) (drop l.index l.bag) q
    ≡ weight (row_eq term_eq) l.bag q
