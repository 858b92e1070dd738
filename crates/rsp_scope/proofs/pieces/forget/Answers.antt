use Rattle.std.proofs.Common.{rules, ◌≡◌, nat_lt, filter, sym, ap, subst, ◌∙◌}
use Rattle.std.proofs.lemmas.Fn.{filter_same}
use Rattle.rsp_scope.specs.Logged.{pieces_since}
use Rattle.rsp_scope.specs.Pieces.{EndBy}
use Rattle.rsp_scope.specs.declared.pieces.Piece.{Piece}
use Rattle.rsp_scope.proofs.LogLaws.{ends-filter, since-kept}
use Rattle.rsp_scope.proofs.pieces.forget.Goals as goal

pub returns-clause-alike : goal.returns-clause-alike
returns-clause-alike c place listed q =
    let kept : c.retain.new.self.items ≡ filter (λ (piece : Piece). nat_lt c.first_of-first.result piece.end) c.args.pieces.now.items
    = filter_same _ (λ (piece : Piece). nat_lt c.first_of-first.result piece.end) _ (λ x b f k. search rules) _ _ c.retain.ensures.filtered in
    ap (λ l. pieces_since l place q) kept ∙ since-kept c.first_of-first.result place c.args.pieces.now.items q (c.first_of-first.ensures place listed)

pub returns-clause-ends : goal.returns-clause-ends
returns-clause-ends c end h =
    let kept : c.retain.new.self.items ≡ filter (λ (piece : Piece). nat_lt c.first_of-first.result piece.end) c.args.pieces.now.items
    = filter_same _ (λ (piece : Piece). nat_lt c.first_of-first.result piece.end) _ (λ x b f k. search rules) _ _ c.retain.ensures.filtered in
    subst (λ l. EndBy end l) (sym kept) (ends-filter end (λ (piece : Piece). nat_lt c.first_of-first.result piece.end) c.args.pieces.now.items h)
