use Rattle.std.proofs.Common.{rules, ◌≡◌, ◌<◌, nat_le, length, slice_index_or, ap, sym, ◌∙◌, arith}
use Rattle.rsp_scope.specs.declared.item.Item.{Item}
use Rattle.rsp_scope.proofs.Endings.{any-default, filter-long}
use Rattle.rsp_scope.proofs.streams.Streams.item_at.Goals as goal

pub returns-then-len-self : goal.returns-then-len-self
returns-then-len-self c d =
    let long : c.len.result ≡ length c.self.inside.items.items = search rules in
    let same = filter-long (λ (item : Item). nat_le c.self.inside.cut item.end) c.self.inside.items.items (omega (arith, long, c.self.invariant.count, c.if-len-self.true)) in
    let below : c.args.index < length c.self.inside.items.items = search rules in
    rw (← c.self.view_is)
    (c.index.ensures
    ∙ (any-default c.self.inside.items.items c.args.index c.index.result.now d below ∙ ap (λ l. slice_index_or l c.args.index d) (sym same)))
