use Rattle.rsp_words.specs.declared.form.Form.TheVariants.{Table}
use Rattle.rsp_modes.specs.Summaries.{counted}
use Rattle.rsp_modes.proofs.Generated.{none_read}
use Rattle.rsp_modes.proofs.generator.generate_on.Goals as goal

pub returns-clause-text : goal.returns-clause-text
returns-clause-text g c shelf = rw c.status_of.ensures (none_read Table (counted c.args.count) shelf _ _ c.tell_summary.result c.tell_summary.ensures.says)
