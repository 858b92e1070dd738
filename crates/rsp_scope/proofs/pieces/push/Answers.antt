use Rattle.std.proofs.Common.{rules, ◌≡◌, ◌++◌, ◌∷◌, [], ap, ◌∙◌}
use Rattle.rsp_scope.specs.Logged.{pieces_since}
use Rattle.rsp_scope.proofs.LogLaws.{since-push}
use Rattle.rsp_scope.proofs.pieces.push.Goals as goal

pub returns-clause-put : goal.returns-clause-put
returns-clause-put c place before q =
    let added : c.push.new.self.items ≡ c.args.pieces.now.items ++ record { end = c.args.end; changes = c.args.changes } ∷ [] = search rules in
    ap (λ l. pieces_since l place q) added ∙ since-push c.args.pieces.now.items (record { end = c.args.end; changes = c.args.changes }) place q before
