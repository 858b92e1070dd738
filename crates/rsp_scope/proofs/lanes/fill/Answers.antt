use Rattle.std.proofs.Common.{rules, ◌<◌, ◌≤◌, ◌++◌, length, refl, ◌∙◌, arith}
use Rattle.rsp_scope.specs.Lanes.{lane_of, peak_of, room_of, slots_of}
use Rattle.rsp_scope.proofs.LaneLaws.{filed-next, filed-room}
use Rattle.rsp_scope.proofs.lanes.fill.Goals as goal

pub loop-at-init : goal.loop-at-init
loop-at-init c = (λ s i. c.clear.ensures.lane s i ++ slots_of s 0 (peak_of 0 (c.clear.ensures.lane s i)) c.args.items.now.items, λ s. refl)

pub file-requires : goal.file-requires
file-requires c =
    let below : c.loop-at.at < length c.args.items.now.items = search rules in
    let x = c.index-item.result.now in
    let given = c.requires c.index-item.result.now.stream in
    let cleared = c.clear.ensures.room c.index-item.result.now.stream in
    let kept = c.loop-at.invariant.1 c.index-item.result.now.stream in
    let wide : length (slots_of c.index-item.result.now.stream 0 0 c.args.items.now.items) ≤ room_of c.loop-at.lanes.entries c.index-item.result.now.stream
    = omega (arith, given, cleared, kept)
    in
    filed-room c.loop-at.lanes.entries c.args.items.now.items c.loop-at.at (room_of c.loop-at.lanes.entries c.index-item.result.now.stream) x below c.index-item.ensures
    (c.loop-at.invariant.0 c.index-item.result.now.stream)
    wide

pub loop-at-preserved : goal.loop-at-preserved
loop-at-preserved c =
    let below : c.loop-at.at < length c.args.items.now.items = search rules in (
      λ s.
          filed-next c.loop-at.lanes.entries s c.args.items.now.items c.loop-at.at c.index-item.result.now (lane_of c.file.new.lanes.entries s) (slots_of s 0 0 c.args.items.now.items) below
          c.index-item.ensures
          (c.file.ensures.lane s)
          (c.loop-at.invariant.0 s),
      λ s. c.file.ensures.room s ∙ c.loop-at.invariant.1 s,
    )
