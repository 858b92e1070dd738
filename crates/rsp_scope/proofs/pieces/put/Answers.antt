use Rattle.std.proofs.Common.{sym, ap, refl, arith}
use Rattle.std.proofs.lemmas.Result.{on_ok_weaker}
use Rattle.rsp_multiset.specs.Weights.{weight}
use Rattle.rsp_terms.specs.Same.{fact_eq}
use Rattle.rsp_scope.specs.declared.pieces.Piece.{Piece}
use Rattle.rsp_scope.proofs.LogLaws.{since-set}
use Rattle.rsp_scope.proofs.pieces.put.Goals as goal

pub returns-clause-put : goal.returns-clause-put
returns-clause-put c = on_ok_weaker c.join_changes.result (λ gained place before q.
    let late = c.in-Some.ensures.1 c.index_mut.result.now in
    let is = ap (λ (p : Piece). p.end) c.index_mut.ensures.value in
    since-set c.args.pieces.now.items c.in-Some.last c.index_mut.result.now (record { end = c.index_mut.result.now.end; changes = c.join_changes.new.self })
    (weight fact_eq c.args.change q) place q c.in-Some.ensures.0 (sym c.index_mut.ensures.value) refl (omega (arith, before, late, is)) (gained q)) c.join_changes.ensures
