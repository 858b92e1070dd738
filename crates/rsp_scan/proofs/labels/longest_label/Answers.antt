use Rattle.std.proofs.Common.{◌∙◌}
use Rattle.rsp_terms.specs.Characters.{is_label_text}
use Rattle.rsp_scan.proofs.Fronts.{front_of, range_front}
use Rattle.rsp_scan.proofs.labels.longest_label.Goals as goal

pub range-requires-clause-end_boundary : goal.range-requires-clause-end_boundary
range-requires-clause-end_boundary c = rw c.label_len.ensures ((front_of is_label_text c.args.text.now c.utf8.text).boundary)

pub returns-clause-value : goal.returns-clause-value
returns-clause-value c =
    c.range.ensures.value ∙ range_front c.label_len.result _ c.args.text.now c.label_len.ensures (front_of is_label_text c.args.text.now c.utf8.text)
