use Rattle.std.proofs.Common.{◌≡◌, rules, ◌∙◌}
use Rattle.std.proofs.lemmas.Str.{IsUtf8-from_ascii}
use Rattle.rsp_text.proofs.DigitLaws.{digits_ascii, parsed}
use Rattle.rsp_text.proofs.digits.value_of.Goals as goal

pub unreachable-requires : goal.unreachable-requires
unreachable-requires c = (c.in-Err.ensures.cases).0 (IsUtf8-from_ascii _ (digits_ascii _ c.requires.digits))

pub returns : goal.returns
returns c =
    let same : c.in-Ok.text.now ≡ c.args.digits.now = search rules in
    c.ok.ensures.value ∙ parsed _ _ c.requires.digits c.requires.some (rw same at c.parse.ensures.value.0)
