-- Words of the way: the words of `events` that are read one by one.
use Rattle.std.specs.Prelude.{ℕ, Option, Some, None, List}
use Rattle.rsp_words.specs.declared.form.Form.{Form}
use Rattle.rsp_words.specs.declared.log.Log.{Log}
use Rattle.rsp_words.specs.declared.log.LogOptions.{LogOptions}
use Rattle.rsp_words.specs.Playing.{form_ahead, values_ahead}
use Rattle.rsp_words.specs.Words.{log_for, slack_of, slack_read, without_slack}

-- the log that words ask for, behind some that gave this form and this slack; an option that was read is no more looked for
abbrev pub log_with : Form → Option ℕ → List (List ℕ) → Option Log
log_with form None words =
    let rest = without_slack words in
    log_for (form_ahead form rest) (values_ahead form rest) (slack_read (slack_of words))
log_with form (Some slack) words = log_for (form_ahead form words) (values_ahead form words) (Some slack)

abbrev pub log_ahead : LogOptions → List (List ℕ) → Option Log
log_ahead read words = log_with read.form read.slack words
