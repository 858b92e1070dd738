use Rattle.std.proofs.Common.{rules, arith, ◌+◌, ◌≡◌, ◌∙◌, Some, ℕ, ◌<◌, List, length, map, drop, drop_of_length-le, drop-cons, add-one, get_or, ap, sym}
use Rattle.std.proofs.lemmas.Result.{IfOk-weaker}
use Rattle.rsp_expr.specs.Meanings.{formula_of}
use Rattle.rsp_expr.specs.Values.{value}
use Rattle.rsp_operands.specs.Operands.{term_for, value_for}
use Rattle.rsp_expr.specs.Booleans.{truth_of, boolean_result}
use Rattle.rsp_expr.specs.Comparing.{equality}
use Rattle.rsp_expr.specs.Errors.{value_of_both}
use Rattle.rsp_expr.specs.declared.expression.Expression.{Expression}
use Rattle.std.specs.Prelude.{not, ◌||◌, true, false, is_some, ◌∷◌}
use Rattle.std.specs.Bool.{beq}
use Rattle.std.specs.Option.{option_eq}
use Rattle.rsp_values.specs.Parts.{both_values, terms_for, argument_values, connected, connection, undecided, membership_of}
use Rattle.rsp_values.proofs.Arguments.{two_give, three_give}
use Rattle.rsp_values.proofs.Connectives.{connective_is, member_is, passed, decided, at_end}
use Rattle.rsp_values.proofs.OtherLengths.{choice_of_few, choice_of_many, value_of_many}
use Rattle.rsp_values.proofs.evaluation.+evaluation.Goals as goal

pub applied-returns-in-len4-up : goal.applied-returns-in-len4-up
applied-returns-in-len4-up g t c = value_of_many c.args.function c.args.arguments.now (g.R.ReadRow.cells c.args.row.now) c.in-len4-up.len_at_least

pub chosen-returns-in-len4-up : goal.chosen-returns-in-len4-up
chosen-returns-in-len4-up g t c = choice_of_many c.args.arguments.now (g.R.ReadRow.cells c.args.row.now) c.in-len4-up.len_at_least

pub chosen-returns-in-len1 : goal.chosen-returns-in-len1
chosen-returns-in-len1 g t c = choice_of_few c.args.arguments.now (g.R.ReadRow.cells c.args.row.now) (omega (arith, c.in-len1.len_below))

pub chosen-returns-in-len2 : goal.chosen-returns-in-len2
chosen-returns-in-len2 g t c = choice_of_few c.args.arguments.now (g.R.ReadRow.cells c.args.row.now) (omega (arith, c.in-len2.len_below))

pub applied-returns-in_ok-beside-in-Some : goal.applied-returns-in_ok-beside-in-Some
applied-returns-in_ok-beside-in-Some g t c =
    let row = g.R.ReadRow.cells c.args.row.now in
    let a = c.first-item-then-arguments-lt3 in
    let b = c.second-item in
    let left = c.in-Some.first in
    let both = c.in_ok-beside-in-Some.field-0 in
    let first : Some (term_for left) ≡ value (formula_of a.result) row = search rules in
    let together : terms_for both ≡ both_values (Some (term_for left)) (value (formula_of b.result) row) = search rules in
    let law = two_give c.args.function c.args.arguments.now row a.result b.result _ _
    c.in-len2.len_at_least c.in-len2.len_below a.is b.is first together in
    IfOk-weaker c.binary.result _ _ (λ operand made. made ∙ law) c.binary.ensures

pub applied-returns-in_ok-evaluate-in-Some-3 : goal.applied-returns-in_ok-evaluate-in-Some-3
applied-returns-in_ok-evaluate-in-Some-3 g t c =
    let row = g.R.ReadRow.cells c.args.row.now in
    let a = c.first-item-then-arguments-lt4 in
    let b = c.second-item-then-arguments-lt4 in
    let d = c.third-item in
    let left = c.in-Some-2.first in
    let first : Some (term_for left) ≡ value (formula_of a.result) row = search rules in
    let together : terms_for (Some c.in-Some-3.two) ≡ both_values (Some (term_for left)) (value (formula_of b.result) row) = search rules in
    let last : value_for c.in_ok-evaluate-in-Some-3.field-0 ≡ value (formula_of d.result) row = search rules in
    let law = three_give c.args.function c.args.arguments.now row a.result b.result d.result _ _ _
    c.in-len3.len_at_least c.in-len3.len_below a.is b.is d.is first together last in
    IfOk-weaker c.ternary.result _ _ (λ operand made. made ∙ law) c.ternary.ensures

-- what is left at an index, from its first part on
cut : (parts : List Expression) (i : ℕ) (part : Expression) → i < length parts → part ≡ get_or parts i part
    → drop i parts ≡ part ∷ drop (i + 1) parts
cut parts i part below is =
    drop-cons parts i part below
    ∙ ap (λ k. get_or parts i part ∷ drop k parts) (sym (add-one i))
    ∙ ap (λ x. x ∷ drop (i + 1) parts) (sym is)

pub connected-loop-part-preserved : goal.connected-loop-part-preserved
connected-loop-part-preserved g t c =
    let deciding = c.args.deciding in
    let row = g.R.ReadRow.cells c.args.row.now in
    let truth = c.truth_of-truth.result in
    let rest = map truth_of (argument_values (drop (c.loop-part.part-index + 1) c.args.parts.now) row) in
    let first : truth ≡ truth_of (value (formula_of c.part-item.result) row) = search rules in
    let opened = ap (λ parts. map truth_of (argument_values parts row))
    (cut c.args.parts.now c.loop-part.part-index c.part-item.result c.loop-part-test.true c.part-item.is)
    ∙ ap (λ t. t ∷ rest) (sym first) in
    let isnt : option_eq beq truth (Some deciding) ≡ false = search rules in
    let erred : c.either-erred.result ≡ (c.loop-part.erred || not (is_some truth)) = search rules in
    ap (λ e. connection deciding (undecided deciding e) (connected deciding rest)) erred
    ∙ passed deciding c.loop-part.erred truth rest isnt
    ∙ ap (λ parts. connection deciding (undecided deciding c.loop-part.erred) (connected deciding parts)) (sym opened)
    ∙ c.loop-part.invariant

pub connected-returns-then-decides : goal.connected-returns-then-decides
connected-returns-then-decides g t c =
    let deciding = c.args.deciding in
    let row = g.R.ReadRow.cells c.args.row.now in
    let truth = c.truth_of-truth.result in
    let rest = map truth_of (argument_values (drop (c.loop-part.part-index + 1) c.args.parts.now) row) in
    let first : truth ≡ truth_of (value (formula_of c.part-item.result) row) = search rules in
    let opened = ap (λ parts. map truth_of (argument_values parts row))
    (cut c.args.parts.now c.loop-part.part-index c.part-item.result c.loop-part-test.true c.part-item.is)
    ∙ ap (λ t. t ∷ rest) (sym first) in
    let is : option_eq beq truth (Some deciding) ≡ true = search rules in
    ap boolean_result
    (decided deciding c.loop-part.erred truth rest is
    ∙ ap (λ parts. connection deciding (undecided deciding c.loop-part.erred) (connected deciding parts)) (sym opened)
    ∙ c.loop-part.invariant
    ∙ connective_is deciding (map truth_of (argument_values c.args.parts.now row)))

pub connected-returns : goal.connected-returns
connected-returns g t c =
    let deciding = c.args.deciding in
    let row = g.R.ReadRow.cells c.args.row.now in
    let none = drop_of_length-le c.args.parts.now c.loop-part-test.false in
    c.boolean.ensures
    ∙ ap boolean_result
    (c.undecided.ensures
    ∙ at_end deciding c.loop-part.erred
    ∙ ap (λ parts. connection deciding (undecided deciding c.loop-part.erred) (connected deciding (map truth_of (argument_values parts row)))) (sym none)
    ∙ c.loop-part.invariant
    ∙ connective_is deciding (map truth_of (argument_values c.args.parts.now row)))

pub among-returns-then-decides : goal.among-returns-then-decides
among-returns-then-decides g t c =
    let row = g.R.ReadRow.cells c.args.row.now in
    let item = Some (term_for c.args.item.now) in
    let truth = c.equals-truth.result in
    let rest = map (value_of_both equality item) (argument_values (drop (c.loop-other.other-index + 1) c.args.list.now) row) in
    let first : truth ≡ value_of_both equality item (value (formula_of c.other-item.result) row) = search rules in
    let opened = ap (λ list. map (value_of_both equality item) (argument_values list row))
    (cut c.args.list.now c.loop-other.other-index c.other-item.result c.loop-other-test.true c.other-item.is)
    ∙ ap (λ t. t ∷ rest) (sym first) in
    let is : option_eq beq truth (Some true) ≡ true = search rules in
    decided true c.loop-other.erred truth rest is
    ∙ ap (λ parts. connection true (undecided true c.loop-other.erred) (connected true parts)) (sym opened)
    ∙ c.loop-other.invariant
    ∙ member_is item (argument_values c.args.list.now row)

pub among-returns : goal.among-returns
among-returns g t c =
    let row = g.R.ReadRow.cells c.args.row.now in
    let item = Some (term_for c.args.item.now) in
    let none = drop_of_length-le c.args.list.now c.loop-other-test.false in
    c.undecided.ensures
    ∙ at_end true c.loop-other.erred
    ∙ ap (λ list. connection true (undecided true c.loop-other.erred) (membership_of item (argument_values list row))) (sym none)
    ∙ c.loop-other.invariant
    ∙ member_is item (argument_values c.args.list.now row)
