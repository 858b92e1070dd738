use Rattle.std.proofs.Common.{rules, ◌≡◌, ◌<◌, ◌++◌, ◌∷◌, take, drop, length, sym, refl, ap, subst, arith}
use Rattle.rsp_scope.specs.Pieces.{EndBy}
use Rattle.rsp_scope.specs.declared.pieces.Piece.{Piece}
use Rattle.rsp_scope.proofs.LogLaws.{ends-at, ends-insert, ends-remove, since-one}
use Rattle.rsp_scope.proofs.pieces.make_one.Goals as goal

pub returns-in_err-changes-clause-ends : goal.returns-in_err-changes-clause-ends
returns-in_err-changes-clause-ends c end h =
    subst (λ l. EndBy end l) (sym c.remove-second.ensures.items)
    (ends-remove end c.remove-first.new.self.items c.args.at
    (subst (λ l. EndBy end l) (sym c.remove-first.ensures.items) (ends-remove end c.args.pieces.now.items c.args.at h)))

pub returns-clause-alike : goal.returns-clause-alike
returns-clause-alike c place q d alike =
    let below : c.args.at < length c.remove-first.new.self.items = search rules in
    let put : c.insert.new.self.items ≡ take c.args.at c.remove-second.new.self.items
    ++ record { end = c.remove-second.result.end; changes = c.in_ok-changes.changes } ∷ drop c.args.at c.remove-second.new.self.items = search rules in
    since-one c.args.pieces.now.items c.remove-first.new.self.items c.remove-second.new.self.items c.insert.new.self.items c.args.at
    c.remove-first.result c.remove-second.result (record { end = c.remove-second.result.end; changes = c.in_ok-changes.changes }) d place q
    c.requires c.remove-first.ensures.items c.remove-first.ensures.value below c.remove-second.ensures.items c.remove-second.ensures.value
    (λ e. c.remove-first.ensures.by_index.1 c.args.at e (omega arith))
    put refl (c.in_ok-changes.ensures q) alike

pub returns-clause-ends : goal.returns-clause-ends
returns-clause-ends c end h =
    let below : c.args.at < length c.remove-first.new.self.items = search rules in
    let put : c.insert.new.self.items ≡ take c.args.at c.remove-second.new.self.items
    ++ record { end = c.remove-second.result.end; changes = c.in_ok-changes.changes } ∷ drop c.args.at c.remove-second.new.self.items = search rules in
    let less = subst (λ l. EndBy end l) (sym c.remove-first.ensures.items) (ends-remove end c.args.pieces.now.items c.args.at h) in
    let low = ends-at end c.remove-first.new.self.items c.args.at c.remove-second.result below less in
    let last = ap (λ (p : Piece). p.end) c.remove-second.ensures.value in
    subst (λ l. EndBy end l) (sym put)
    (ends-insert end c.remove-second.new.self.items c.args.at (record { end = c.remove-second.result.end; changes = c.in_ok-changes.changes }) (omega (arith, low, last))
    (subst (λ l. EndBy end l) (sym c.remove-second.ensures.items) (ends-remove end c.remove-first.new.self.items c.args.at less)))
