use Rattle.std.proofs.Common.{◌∙◌, sym, ap, take}
use Rattle.rsp_scan.proofs.Fronts.{tag_utf8}
use Rattle.rsp_scan.proofs.LongestTag.{longest_tag}
use Rattle.rsp_scan.proofs.labels.longest_tag.Goals as goal

pub returns-clause-value : goal.returns-clause-value
returns-clause-value c = ap (λ n. take n c.args.text.now) c.tag_len.ensures.value ∙ sym (longest_tag c.args.text.now)

pub returns-clause-utf8 : goal.returns-clause-utf8
returns-clause-utf8 c = rw c.tag_len.ensures.value (tag_utf8 c.args.text.now)
