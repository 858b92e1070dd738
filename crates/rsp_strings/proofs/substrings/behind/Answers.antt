use Rattle.std.proofs.Common.{◌∙◌, ap, drop}
use Rattle.rsp_strings.proofs.Fronts.{drop_bytes}
use Rattle.rsp_strings.proofs.substrings.behind.Goals as goal

pub returns : goal.returns
returns c =
    c.range_from.ensures.value
    ∙ ap (λ n. drop n c.args.text.now) c.front_len.ensures.value
    ∙ drop_bytes c.args.count c.args.text.now c.utf8.text
