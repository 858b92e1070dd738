use Rattle.std.proofs.Common.{◌≡◌, ◌++◌, ◌∙◌, sym, ap, subst, MatchOption, IfOk, Some, None, length, suc}
use Rattle.std.specs.Char.{encode_utf8}
use Rattle.std.specs.List.{take_while}
use Rattle.std.specs.String.{string_bytes}
use Rattle.rsp_scan.specs.Kinds.{is_plain, escape}
use Rattle.rsp_scan.specs.Readers.{behind, onto, spelled}
use Rattle.rsp_scan.proofs.Spelling.{none_spelled, last_spelled, more_spelled}
use Rattle.rsp_scan.proofs.enclosed.spelled.Goals as goal

pub returns-in_default : goal.returns-in_default
returns-in_default c = none_spelled (length c.args.text.now) (is_plain c.args.kind) (escape c.args.kind) c.args.text.now c.in_default.ensures

pub returns-in_ok-text-in-None : goal.returns-in_ok-text-in-None
returns-in_ok-text-in-None c =
    let run = c.in-Some.ensures in
    let none : escape c.args.kind (behind (take_while (is_plain c.args.kind) c.args.text.now) c.args.text.now) ≡ None = rw run.2 at c.in-None.ensures in
    rw (c.in_ok-text-in-None.ensures, run.1, run.2)
    (last_spelled (length c.args.text.now) (is_plain c.args.kind) (escape c.args.kind) c.args.text.now run.0 none)

pub returns-in_ok-push-in-Some-escape : goal.returns-in_ok-push-in-Some-escape
returns-in_ok-push-in-Some-escape c =
    let run = c.in-Some.ensures in
    let text = c.args.text.now in
    let some : escape c.args.kind (behind (take_while (is_plain c.args.kind) c.args.text.now) c.args.text.now) ≡ Some (c.in-Some-escape.character, c.in-Some-escape.rest.now)
    = rw run.2 at c.in-Some-escape.ensures in
    let bytes : string_bytes c.push.new.self ≡ take_while (is_plain c.args.kind) c.args.text.now ++ encode_utf8 c.in-Some-escape.character
    = c.in_ok-push-in-Some-escape.ensures.bytes ∙ ap (λ xs. xs ++ encode_utf8 c.in-Some-escape.character) (c.in_ok-begun-in-Some-escape.ensures.ok ∙ run.1) in
    let all : spelled (suc (length c.args.text.now)) (is_plain c.args.kind) (escape c.args.kind) c.args.text.now
    ≡ onto (string_bytes c.push.new.self) (spelled (length c.args.text.now) (is_plain c.args.kind) (escape c.args.kind) c.in-Some-escape.rest.now)
    = rw bytes (more_spelled (length c.args.text.now) (is_plain c.args.kind) (escape c.args.kind) c.args.text.now run.0 c.in-Some-escape.character c.in-Some-escape.rest.now some) in
    subst (λ o. IfOk c.spelled_onto.result (λ r. MatchOption r (o ≡ None) (λ x. o ≡ Some (x.0, x.1.now)))) (sym all) c.spelled_onto.ensures
