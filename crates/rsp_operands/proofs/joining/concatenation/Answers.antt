use Rattle.std.proofs.Common.{rules, ◌≡◌, Some, [], map, ap, sym, ◌∙◌}
use Rattle.std.specs.Option.{option_map, option_copied}
use Rattle.std.specs.String.{string_bytes}
use Rattle.rsp_expr.specs.Functions.{text_literal}
use Rattle.rsp_operands.specs.Operands.{term_for, texts_onto}
use Rattle.rsp_operands.proofs.JoinedTexts.{concatenation-none, concatenation-some}
use Rattle.rsp_operands.proofs.joining.concatenation.Goals as goal

pub returns-in-None : goal.returns-in-None
returns-in-None c =
    let joined : option_map string_bytes c.in_ok-joined.field-0 ≡ texts_onto (Some []) (map term_for c.args.parts.now) = search rules in
    concatenation-none (map term_for c.args.parts.now) (ap (option_map string_bytes) (sym c.in-None.is) ∙ joined)

pub returns-in_ok-text_operand-in-Some : goal.returns-in_ok-text_operand-in-Some
returns-in_ok-text_operand-in-Some c =
    let joined : option_map string_bytes c.in_ok-joined.field-0 ≡ texts_onto (Some []) (map term_for c.args.parts.now) = search rules in
    let text : c.as_str.result.now ≡ string_bytes c.in-Some.text = search rules in
    let made : term_for c.in_ok-text_operand-in-Some.field-0 ≡ text_literal (option_copied c.common_tag.result) c.as_str.result.now = search rules in
    concatenation-some (map term_for c.args.parts.now) c.as_str.result.now (option_copied c.common_tag.result) _
    (ap Some text ∙ ap (option_map string_bytes) (sym c.in-Some.is) ∙ joined)
    c.common_tag.ensures
    made
