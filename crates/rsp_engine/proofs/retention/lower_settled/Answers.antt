use Rattle.std.proofs.Common.{length, sym, ap, subst, ◌∙◌, arith}
use Rattle.rsp_scope.specs.Ends.{AreEnds, IsKept}
use Rattle.rsp_scope.specs.Kept.{Kept, needed}
use Rattle.rsp_engine.specs.Keeping.{IsLess, watches_by}
use Rattle.rsp_engine.proofs.KeptEnds.{ends_by, few_lowered, kept_lowered, less_lowered}
use Rattle.rsp_engine.proofs.retention.lower_settled.Goals as goal

pub shorten-requires : goal.shorten-requires
shorten-requires g c =
    ap length c.as_slice.ensures.value ∙ c.fill.ensures.many

pub returns-clause-less : goal.returns-clause-less
returns-clause-less g c =
    let new_is = c.drop_before.ensures ∙ ap (λ (k : Kept). record k { items = needed c.args.cut k.items }) c.shorten.ensures in
    subst (IsLess c.args.streams.now) (sym new_is) (less_lowered c.args.cut c.args.streams.now c.as_slice.result.now)

pub returns-clause-room : goal.returns-clause-room
returns-clause-room g c =
    let new_is = c.drop_before.ensures ∙ ap (λ (k : Kept). record k { items = needed c.args.cut k.items }) c.shorten.ensures in
    omega (
      arith,
      ap (λ (k : Kept). length k.items) new_is,
      few_lowered c.args.cut c.args.streams.now.items c.as_slice.result.now,
      c.requires.room,
      c.fill.ensures.room,
    )

pub returns-clause-kept : goal.returns-clause-kept
returns-clause-kept g c before all items on less h =
    let watches = watches_by c.args.queries.now in
    let new_is = c.drop_before.ensures ∙ ap (λ (k : Kept). record k { items = needed c.args.cut k.items }) c.shorten.ensures in
    let ends = subst (AreEnds watches c.args.streams.now.items) (sym c.as_slice.ensures.value)
    (c.fill.ensures.ends (ends_by before all watches items c.args.streams.now less h)) in
    subst (IsKept c.args.cut watches items) (sym new_is)
    (kept_lowered before c.args.cut all watches items c.args.streams.now c.as_slice.result.now ends on less h)
