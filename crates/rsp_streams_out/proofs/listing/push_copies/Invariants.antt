use Rattle.std.proofs.Common.{◌≡◌, ◌+ℤ◌, pos, List, Option}
use Rattle.rsp_multiset.specs.Rows.{row_eq}
use Rattle.rsp_multiset.specs.Weights.{only, times}
use Rattle.rsp_terms.specs.declared.term.Term.{Term}
use Rattle.rsp_terms.specs.Same.{term_eq}
use Rattle.rsp_streams_out.proofs.listing.push_copies.Given as goal

abbrev pub invariant-loop : goal.invariant-loop
invariant-loop l = (q : List (Option Term)) → times (row_eq term_eq) l.rows.items q
    ≡ times (row_eq term_eq) l.fn.rows.items q +ℤ only (row_eq term_eq q l.row) (pos l.counter)
