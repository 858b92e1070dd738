use Rattle.std.proofs.Common.{rules, ◌≡◌, ◌-◌, ◌<◌, max, length, ap, sym, ◌∙◌, arith}
use Rattle.rsp_scope.specs.declared.lanes.Slot.{Slot}
use Rattle.rsp_scope.proofs.LaneLaws.{peak-last, peak-none}
use Rattle.rsp_scope.proofs.lanes.peak_with.Goals as goal

pub returns-in-Some : goal.returns-in-Some
returns-in-Some c =
    let long : c.args.slots.now.len ≡ length c.args.slots.now.items = search rules in
    let some : 0 < length c.args.slots.now.items = search rules in
    let last = peak-last 0 c.args.slots.now.items (c.args.slots.now.len - 1) c.in-Some.last.now (omega (arith, long, some)) in
    c.max.ensures ∙ ap (λ n. max c.args.time n) (ap (λ (x : Slot). x.peak) c.in-Some.ensures.lookup ∙ sym last)

pub returns-in-None : goal.returns-in-None
returns-in-None c = peak-none c.args.slots.now.items c.args.time (search rules)
