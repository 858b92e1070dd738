use Rattle.std.proofs.Common.{◌∙◌, ap}
use Rattle.std.proofs.lemmas.Str.Pattern.{strip_suffix_char}
use Rattle.rsp_said.specs.Saying.{before_sign}
use Rattle.rsp_said.proofs.Signs.{before_none, before_some, match_weaker}
use Rattle.rsp_said.proofs.parts.before.Goals as goal

pub returns : goal.returns
returns c =
    match_weaker c.strip_suffix.result (before_none c.args.mark c.args.text.now)
    (λ x is. ap (before_sign c.args.mark) is ∙ before_some c.args.mark x.now)
    (strip_suffix_char c.args.mark c.args.text.now c.strip_suffix.result c.strip_suffix.ensures.cases c.requires)
