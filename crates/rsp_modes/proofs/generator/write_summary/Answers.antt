use Rattle.std.proofs.Common.{◌∙◌}
use Rattle.rsp_words.specs.declared.form.Form.TheVariants.{Table}
use Rattle.rsp_modes.specs.Output.{a_summary}
use Rattle.rsp_modes.proofs.Voicing.{says_one}
use Rattle.rsp_modes.proofs.generator.write_summary.Goals as goal

pub returns-in-Ok : goal.returns-in-Ok
returns-in-Ok g c =
    says_one Table _ _ (a_summary c.args.count c.args.tally.reports c.args.tally.rows) c.write_line-written.result
    (rw (c.as_bytes.ensures.value ∙ c.in-Ok.ensures.ok) at c.write_line-written.ensures.text)
    c.write_line-written.ensures.stays
    c.write_line-written.ensures.refused
