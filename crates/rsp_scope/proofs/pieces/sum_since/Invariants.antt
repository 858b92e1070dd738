use Rattle.std.proofs.Common.{◌≡◌, ◌+ℤ◌, drop}
use Rattle.rsp_multiset.specs.Weights.{only, weight}
use Rattle.rsp_terms.specs.declared.statement.Fact.{Fact}
use Rattle.rsp_terms.specs.Same.{fact_eq}
use Rattle.rsp_scope.specs.Logged.{pieces_since}
use Rattle.rsp_scope.proofs.pieces.sum_since.Given as goal

abbrev pub invariant-loop-piece : goal.invariant-loop-piece
invariant-loop-piece g l =
    (q : Fact)
    → weight fact_eq l.sum q +ℤ only (g.R.Reader.is_read l.reader q) (pieces_since (drop l.piece-index l.pieces) l.place q)
    ≡ only (g.R.Reader.is_read l.reader q) (pieces_since l.pieces l.place q)
