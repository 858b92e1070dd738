use Rattle.std.proofs.Common.{◌≡◌, ◌+◌, ◌++◌, ◌∷◌, [], length, length-append, sym, rules, arith}
use Rattle.rsp_events.specs.Buffers.{pieces}
use Rattle.rsp_events.proofs.BufferLaws.{cut_more, last_more, pushed}
use Rattle.rsp_events.proofs.buffers.LineBuffer.push.Goals as goal

pub invariant_of-self-else-is_err : goal.invariant_of-self-else-is_err
invariant_of-self-else-is_err c =
    let bytes = c.self.inside.bytes.items in
    let ends = c.self.inside.ends.items in
    let line = c.args.line.now in
    let all : c.extend_from_slice.new.self.items ≡ bytes ++ line = search rules in
    let end : c.len-end.result ≡ length bytes + length line = search rules in
    let more : c.push.new.self.items ≡ ends ++ c.len-end.result ∷ [] = search rules in
    let long = length-append bytes line in
    rw (all, more, end, long) (cut_more 0 ends (length bytes) (length bytes + length line) c.self.invariant.0 (omega arith), last_more 0 ends (length bytes + length line))

pub returns : goal.returns
returns c =
    let bytes = c.self.inside.bytes.items in
    let ends = c.self.inside.ends.items in
    let line = c.args.line.now in
    let all : c.extend_from_slice.new.self.items ≡ bytes ++ line = search rules in
    let end : c.len-end.result ≡ length bytes + length line = search rules in
    let more : c.push.new.self.items ≡ ends ++ c.len-end.result ∷ [] = search rules in
    rw (← c.self.view_is, all, more, end) (pushed bytes line 0 ends c.self.invariant.0 c.self.invariant.1)
