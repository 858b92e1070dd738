use Rattle.std.proofs.Common.{◌∙◌, ap, take}
use Rattle.rsp_strings.proofs.Fronts.{range_front, take_bytes}
use Rattle.rsp_strings.proofs.substrings.front.Goals as goal

pub returns : goal.returns
returns c =
    c.range.ensures.value ∙ range_front c.front_len.result c.args.text.now
    ∙ ap (λ n. take n c.args.text.now) c.front_len.ensures.value
    ∙ take_bytes c.args.count c.args.text.now c.utf8.text
