use Rattle.std.proofs.Common.{rules, ◌≡◌, Some}
use Rattle.std.specs.Prelude.{Decides}
use Rattle.rsp_expr.specs.Forms.{number_of}
use Rattle.rsp_expr.specs.Numerals.{numeral_literal}
use Rattle.rsp_operands.proofs.SameTerms.{same_numbers}
use Rattle.rsp_operands.proofs.same.is_same_number.Goals as goal

pub returns : goal.returns
returns c =
    same_numbers c.args.left.now c.args.right.now c.read_back-left.result c.read_back-right.result c.eq.result
    c.read_back-left.ensures.value c.read_back-right.ensures.value c.read_back-left.ensures.read c.read_back-right.ensures.read
    c.eq.ensures
