use Rattle.std.proofs.Common.{◌≡◌, length, ap, ◌∙◌, arith}
use Rattle.std.proofs.lemmas.Bool.Decides.{nat_tests}
use Rattle.std.proofs.lemmas.Result.{IfOk-weaker}
use Rattle.rsp_multiset.specs.RowLists.{each_once}
use Rattle.rsp_algebra.specs.Solutions.{same_row}
use Rattle.rsp_eval.proofs.Groups.{keys_of_one_group, keys_of_each_group}
use Rattle.rsp_eval.proofs.grouping.keys_of_groups.Goals as goal

pub returns-then-is_empty : goal.returns-then-is_empty
returns-then-is_empty c =
    let test = c.is_empty.ensures in
    let passed = c.if-is_empty.true in
    let none : length c.args.keys.now ≡ 0 = grind (arith, nat_tests) in
    IfOk-weaker c.unit_rows.result _ _ (λ rows is. is ∙ keys_of_one_group c.args.width c.args.keys.now c.args.rows.now none) c.unit_rows.ensures

pub returns : goal.returns
returns c =
    let test = c.is_empty.ensures in
    let failed = c.if-is_empty.false in
    IfOk-weaker c.distinct_rows.result _ _ (λ rows is.
    is
    ∙ (ap (each_once same_row) c.in_ok-project_rows.ensures
    ∙ keys_of_each_group c.args.width c.args.keys.now c.args.rows.now (λ none. grind (arith, nat_tests, test, failed, none)))) c.distinct_rows.ensures
