use Rattle.std.proofs.Common.{nat_lt, slice_index_or, sym, ap, ◌∙◌}
use Rattle.rsp_scope.specs.declared.pieces.Piece.{Piece}
use Rattle.rsp_scope.proofs.Endings.{any-default}
use Rattle.rsp_scope.proofs.pieces.close_up.Goals as goal

pub returns-clause-alike : goal.returns-clause-alike
returns-clause-alike c place listed q =
    let pieces = c.args.pieces.now.items in
    let first = ap (λ (p : Piece). nat_lt place p.end) c.index.ensures in
    let second = ap (λ (p : Piece). nat_lt place p.end)
    (c.index-2.ensures ∙ (any-default pieces c.in-Some.behind c.index-2.result.now c.index.result.now c.in-Some.ensures.1
    ∙ ap (λ n. slice_index_or pieces n c.index.result.now) c.in-Some.ensures.0)) in
    c.in_ok-make_one.ensures.alike place q c.index.result.now (sym first ∙ (c.tells_apart.ensures c.if-tells_apart.false place listed ∙ second))
