use Rattle.std.proofs.lemmas.Str.Pattern.{strip_prefix_char}
use Rattle.rsp_said.proofs.Signs.{sign_none, sign_some, match_weaker}
use Rattle.rsp_said.proofs.parts.behind.Goals as goal

pub returns : goal.returns
returns c =
    match_weaker c.strip_prefix.result (sign_none c.args.mark c.args.text.now) (λ x is. sign_some c.args.mark c.args.text.now x.now is)
    (strip_prefix_char c.args.mark c.args.text.now c.strip_prefix.result c.strip_prefix.ensures.cases c.requires)
