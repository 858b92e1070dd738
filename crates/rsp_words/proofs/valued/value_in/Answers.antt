use Rattle.std.proofs.Common.{◌≡◌, ◌∙◌, ap, codes, rules, None, Some, List, ℕ, Bor}
use Rattle.std.specs.Option.{option_and_then, option_map}
use Rattle.rsp_words.specs.Words.{behind}
use Rattle.rsp_words.proofs.Fronts.{behind_is}
use Rattle.rsp_words.proofs.valued.value_in.Goals as goal

pub returns-in_err-strip_prefix : goal.returns-in_err-strip_prefix
returns-in_err-strip_prefix c =
    let none : c.from_residual.result ≡ None = search rules in
    let lacks = behind_is c.args.name.now c.args.word.now None c.in_err-strip_prefix.ensures.cases in
    ap (option_map (λ (value : Bor (List ℕ)). value.now)) none ∙ ap (option_and_then (behind (codes "="))) lacks

pub returns : goal.returns
returns c =
    let rest = c.in_ok-strip_prefix.field-0 in
    let first = behind_is c.args.name.now c.args.word.now (Some rest) c.in_ok-strip_prefix.ensures.cases in
    behind_is (codes "=") rest.now c.strip_prefix-2.result c.strip_prefix-2.ensures.cases
    ∙ ap (option_and_then (behind (codes "="))) first
