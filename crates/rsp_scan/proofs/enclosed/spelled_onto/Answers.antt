use Rattle.std.proofs.Common.{◌≡◌, ◌++◌, ◌-◌, ◌+◌, ◌∙◌, ap, arith, Some, None}
use Rattle.std.specs.Char.{encode_utf8}
use Rattle.std.specs.List.{take_while}
use Rattle.std.specs.String.{string_bytes}
use Rattle.rsp_scan.specs.Kinds.{is_plain, escape}
use Rattle.rsp_scan.specs.Readers.{behind}
use Rattle.rsp_scan.proofs.Spelling.{loop_ends, loop_none, loop_last, loop_more}
use Rattle.rsp_scan.proofs.enclosed.spelled_onto.Goals as goal

pub returns-in_default : goal.returns-in_default
returns-in_default c =
    loop_none (string_bytes c.loop.spelled) _ (c.args.most - c.loop.counter) (c.args.most - (c.loop.counter + 1)) (is_plain c.args.kind) (escape c.args.kind)
    c.loop.rest.now (omega (arith, c.loop-test.true)) c.in_default.ensures c.loop.invariant

pub returns-in_default-escape : goal.returns-in_default-escape
returns-in_default-escape c =
    let run = c.in-Some.ensures in
    let none : escape c.args.kind (behind (take_while (is_plain c.args.kind) c.loop.rest.now) c.loop.rest.now) ≡ None = rw run.2 at c.in_default-escape.ensures in
    let bytes : c.in_ok-text.field-0 ≡ string_bytes c.loop.spelled ++ take_while (is_plain c.args.kind) c.loop.rest.now
    = c.in_ok-text.ensures ∙ (c.as_str.ensures.value ∙ (c.in_ok-push_str.ensures.bytes ∙ ap (λ ys. string_bytes c.loop.spelled ++ ys) run.1)) in
    rw (bytes, run.2)
    (loop_last (string_bytes c.loop.spelled) _ (c.args.most - c.loop.counter) (c.args.most - (c.loop.counter + 1)) (is_plain c.args.kind) (escape c.args.kind)
    c.loop.rest.now (omega (arith, c.loop-test.true)) run.0 none c.loop.invariant)

pub loop-preserved : goal.loop-preserved
loop-preserved c =
    let run = c.in-Some.ensures in
    let some : escape c.args.kind (behind (take_while (is_plain c.args.kind) c.loop.rest.now) c.loop.rest.now) ≡ Some (c.in-Some-escape.character, c.in-Some-escape.next.now)
    = rw run.2 at c.in-Some-escape.ensures in
    let bytes : string_bytes c.push.new.self ≡ (string_bytes c.loop.spelled ++ take_while (is_plain c.args.kind) c.loop.rest.now) ++ encode_utf8 c.in-Some-escape.character
    = c.in_ok-push.ensures.bytes
    ∙ ap (λ xs. xs ++ encode_utf8 c.in-Some-escape.character) (c.in_ok-push_str.ensures.bytes ∙ ap (λ ys. string_bytes c.loop.spelled ++ ys) run.1) in
    rw bytes
    (loop_more (string_bytes c.loop.spelled) _ (c.args.most - c.loop.counter) (c.args.most - (c.loop.counter + 1)) (is_plain c.args.kind) (escape c.args.kind)
    c.loop.rest.now c.in-Some-escape.character c.in-Some-escape.next.now (omega (arith, c.loop-test.true)) run.0 some c.loop.invariant)

pub returns : goal.returns
returns c =
    loop_ends (string_bytes c.loop.spelled) _ (c.args.most - c.loop.counter) 0 (is_plain c.args.kind) (escape c.args.kind)
    c.loop.rest.now (omega (arith, c.loop-test.false)) c.loop.invariant
