use Rattle.std.proofs.Common.{rules, nat_le}
use Rattle.std.proofs.lemmas.Fn.{filter_same}
use Rattle.rsp_scope.specs.declared.item.Item.{Item}
use Rattle.rsp_scope.proofs.queue.let_go.Goals as goal

pub returns : goal.returns
returns c = filter_same _ (λ (item : Item). nat_le c.args.next item.end) _ (λ x b f k. search rules) _ _ c.retain.ensures.filtered
